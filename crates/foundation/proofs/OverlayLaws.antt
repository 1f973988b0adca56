-- Overlays: `sets l i vs` is l with vs written over it from place i on; what would stand past its end is left out.
-- Assumes nothing.
use mathlib.Core.Path.{◌≡◌, refl, sym, ap, ◌∙◌}
use mathlib.Core.List.{List, [], ◌∷◌, ◌++◌}
use Prim.Native.Nat.{ℕ, suc, ◌+◌, ◌≤◌, ◌<◌}
use native.Mathlib.Nat.{add-zero, zero-add, add-suc, suc-add}
use native.Mathlib.Omega.{arith}
use lib.ListN.{length, drop, set}
use lib.Seq.{set_out, set_comm, sets, sets-eq, length-sets}

-- one run after the other
pub sets_append : (u v l : List ℕ) (i : ℕ) → sets l i (u ++ v) ≡ sets (sets l i u) (i + length u) v
sets_append [] v l i = ap (λ (k : ℕ). sets l k v) (sym (add-zero i))
sets_append (a ∷ u) v l i =
    sets_append u v (set l i a) (suc i)
    ∙ ap (λ (k : ℕ). sets (sets (set l i a) (suc i) u) k v) (suc-add i (length u) ∙ sym (add-suc i (length u)))

-- the same of two steps, the second where the first ended
pub sets_then : (u v l : List ℕ) (i : ℕ) {l₁ l₂ : List ℕ} {j : ℕ}
    → l₁ ≡ sets l i u → j ≡ i + length u → l₂ ≡ sets l₁ j v → l₂ ≡ sets l i (u ++ v)
sets_then u v l i p e q = q ∙ rw (p, e) (sym (sets_append u v l i))

-- past the end nothing is written
pub sets_out : (vs l : List ℕ) (i : ℕ) → length l ≤ i → sets l i vs ≡ l
sets_out [] l i h = refl
sets_out (b ∷ vs) l i h = rw (set_out l i b h) (sets_out vs l (suc i) (omega arith))

-- so a run may be cut short there
pub sets_clipped : (u v l : List ℕ) (i : ℕ) → length l ≤ i + length u → sets l i (u ++ v) ≡ sets l i u
sets_clipped u v l i h = sets_append u v l i ∙ sets_out v (sets l i u) (i + length u) (rw length-sets h)

-- places that don't meet can be written in either order
pub set_sets_before : (vs l : List ℕ) (i j b : ℕ) → j < i → set (sets l i vs) j b ≡ sets (set l j b) i vs
set_sets_before [] l i j b h = refl
set_sets_before (v ∷ vs) l i j b h =
    set_sets_before vs (set l i v) (suc i) j b (omega arith)
    ∙ ap (λ (x : List ℕ). sets x (suc i) vs) (set_comm l i j v b (λ e. omega arith))

pub sets_before : (us vs l : List ℕ) (i j : ℕ) → j + length us ≤ i → sets (sets l i vs) j us ≡ sets (sets l j us) i vs
sets_before [] vs l i j h = refl
sets_before (b ∷ us) vs l i j h =
    ap (λ (x : List ℕ). sets x (suc j) us) (set_sets_before vs l i j b (omega arith))
    ∙ sets_before us vs (set l j b) i (suc j) (omega arith)

-- a head, its body, and then what stands between them
pub sets_patch : (hd mid body l : List ℕ) (i j k : ℕ) → j ≡ i + length hd → k ≡ j + length mid
    → sets (sets (sets l i hd) k body) j mid ≡ sets l i (hd ++ (mid ++ body))
sets_patch hd mid body l i j k e f =
    sets_before mid body (sets l i hd) k j (omega arith)
    ∙ ap (λ (n : ℕ). sets (sets (sets l i hd) j mid) n body) f
    ∙ sym (sets_append mid body (sets l i hd) j)
    ∙ ap (λ (n : ℕ). sets (sets l i hd) n (mid ++ body)) e
    ∙ sym (sets_append hd (mid ++ body) l i)

-- from the start, where there is room
pub sets_front : (vs l : List ℕ) → length vs ≤ length l → sets l 0 vs ≡ vs ++ drop (length vs) l
sets_front vs l h = sets-eq vs l 0 (rw zero-add h) ∙ rw zero-add
