-- What waits in the lent area: that it has room, what stays as it is below a height, and what a push and a pop leave.
-- Assumes nothing.
use mathlib.Core.Path.{◌≡◌, refl, ap, sym, subst, ◌∙◌}
use mathlib.Core.List.{List, [], ◌∷◌}
use Prim.Native.Nat.{ℕ, zero, suc, ◌+◌, ◌-◌, ◌≤◌, ◌<◌}
use native.Mathlib.Numerals.{add-one}
use native.Mathlib.Omega.{arith}
use lib.ListN.{length, take, set}
use lib.Seq.{get_or-take, get_or-set_same, take-set-le, take-take}
use Rattle.schema.specs.told.SchemaTold.{Lent}
use Rattle.type_references.specs.told.ParseTold.{as_types, as_bytes, FitsType, lent_area}
use Rattle.type_references.specs.told.Pending.{Wait, waiting_at, Pends, Stacked, PendingInside, weight}
use Rattle.type_references.specs.declared.waiting.Waiting.{Waiting}

-- An area with room.
pub fits-types : {e : Lent} {base : ℕ} {msg : List ℕ} {types room : ℕ} → types ≤ room → FitsType e base msg types room
fits-types h = lent_area (as_types h) (λ z. omega arith)

pub fits-bytes : {e : Lent} {base : ℕ} {msg : List ℕ} {types room : ℕ} → e.tables.types ≡ 0 → length msg < room → FitsType e base msg types room
fits-bytes z h = lent_area (as_bytes z (omega arith)) (λ k. absurd (omega arith))

-- What is the same below a height.
module _ (nest nest' : List Waiting) where
  pub take_less : (n h : ℕ) → n ≤ h → take h nest' ≡ take h nest → take n nest' ≡ take n nest
  take_less n h l e = sym (take-take n h nest' l) ∙ ap (take n) e ∙ take-take n h nest l

  pub same-below : (h i : ℕ) → i < h → take h nest' ≡ take h nest → waiting_at nest' i ≡ waiting_at nest i
  same-below h i l e = sym (get_or-take h nest' i _ l) ∙ ap (λ (n : List Waiting). waiting_at n i) e ∙ get_or-take h nest i _ l

  pub weight-same : (h : ℕ) → take h nest' ≡ take h nest → weight nest' h ≡ weight nest h
  unfolding weight
  weight-same zero e = refl
  weight-same (suc h) e =
      let here : waiting_at nest' h ≡ waiting_at nest h = same-below (suc h) h (omega arith) e in
      let below : weight nest' h ≡ weight nest h = weight-same h (take_less h (suc h) (omega arith) e) in
      ap (λ (w : Waiting). suc (w.end - w.at) + weight nest' h) here ∙ ap (λ (n : ℕ). suc ((waiting_at nest h).end - (waiting_at nest h).at) + n) below

  pub stacked-same : (base : ℕ) (msg last : List ℕ) (height : ℕ) (ws : List Wait) → take height nest' ≡ take height nest
      → Stacked base msg last nest height ws → Stacked base msg last nest' height ws
  stacked-same base msg last height [] e s = s
  stacked-same base msg last height (w ∷ ws) e (h, f, p, s) =
      let here : waiting_at nest' h ≡ waiting_at nest h = same-below height h (omega arith) e in (
        h,
        f,
        subst (λ (x : Waiting). Pends base msg last x.at x.end x.left w) (sym here) p,
        stacked-same base msg last h ws (take_less h height (omega arith) e) s,
      )

  pub inside-same : (msg : List ℕ) (left height i : ℕ) → i < height → take height nest' ≡ take height nest → PendingInside msg left (waiting_at nest i)
      → PendingInside msg left (waiting_at nest' i)
  inside-same msg left height i l e s = subst (PendingInside msg left) (sym (same-below height i l e)) s

-- Each that waits counts.
pub weight-more : (nest : List Waiting) (height : ℕ) → height ≤ weight nest height
unfolding weight
weight-more nest zero = omega arith
weight-more nest (suc height) = omega (arith, weight-more nest height)

-- One more that waits.
module _ (nest : List Waiting) (height : ℕ) (x : Waiting) (room : height < length nest) {nest' : List Waiting} (e : nest' ≡ set nest height x) where
  pub push-below : take height nest' ≡ take height nest
  push-below = ap (take height) e ∙ take-set-le height nest height x (omega arith)

  pub push-here : waiting_at nest' height ≡ x
  push-here = ap (λ (n : List Waiting). waiting_at n height) e ∙ get_or-set_same nest height x _ room

  pub weight-push : weight nest' (height + 1) ≡ suc (x.end - x.at) + weight nest height
  unfolding weight
  weight-push = rw (add-one height, push-here, weight-same nest nest' height push-below)

  pub stacked-push : (base : ℕ) (msg last : List ℕ) (w : Wait) (ws : List Wait) → Pends base msg last x.at x.end x.left w
      → Stacked base msg last nest height ws → Stacked base msg last nest' (height + 1) (w ∷ ws)
  stacked-push base msg last w ws p s = (
    height,
    add-one height,
    subst (λ (y : Waiting). Pends base msg last y.at y.end y.left w) (sym push-here) p,
    stacked-same nest nest' base msg last height ws push-below s,
  )

-- The last one is taken.
pub weight_pop : (nest : List Waiting) (height : ℕ) → 1 ≤ height
    → weight nest height ≡ suc ((waiting_at nest (height - 1)).end - (waiting_at nest (height - 1)).at) + weight nest (height - 1)
unfolding weight
weight_pop nest zero h = absurd (omega arith)
weight_pop nest (suc height) h = let one_less : suc height - 1 ≡ height = omega arith in rw one_less

pub record Popped (base : ℕ) (msg last : List ℕ) (nest : List Waiting) (height : ℕ) (ws : List Wait) : Type 0 where
  pub top : Wait
  pub others : List Wait
  pub are : ws ≡ top ∷ others
  pub pends : Pends base msg last (waiting_at nest (height - 1)).at (waiting_at nest (height - 1)).end (waiting_at nest (height - 1)).left top
  pub stacked : Stacked base msg last nest (height - 1) others

pub stacked_pop : (base : ℕ) (msg last : List ℕ) (nest : List Waiting) (height : ℕ) (ws : List Wait) → (height ≡ 0 → ⊥) → Stacked base msg last nest height ws
    → Popped base msg last nest height ws
stacked_pop base msg last nest height [] n s = absurd (n s)
stacked_pop base msg last nest height (w ∷ ws) n (h, f, p, s) =
    let z : h ≡ height - 1 = omega arith in
    record {
      top = w;
      others = ws;
      are = refl;
      pends = rw (← z) p;
      stacked = subst (λ (k : ℕ). Stacked base msg last nest k ws) z s;
    }

pub stacked_empty : (base : ℕ) (msg last : List ℕ) (nest : List Waiting) (height : ℕ) (ws : List Wait) → height ≡ 0 → Stacked base msg last nest height ws → ws ≡ []
stacked_empty base msg last nest height [] e s = refl
stacked_empty base msg last nest height (w ∷ ws) e (h, f, p, s) = absurd (omega arith)
