-- Laws of the test whether two texts are the same, and of a test that can't be true.
-- Assumes nothing.
use mathlib.Core.Path.{◌≡◌, refl, sym, ap, ◌∙◌}
use mathlib.Core.Bool.{Bool, true, false, ◌&&◌}
use mathlib.Core.List.{List, [], ◌∷◌, ◌++◌}
use Prim.Native.Nat.{ℕ, ◌+◌, ◌≤◌, ◌<◌}
use native.Mathlib.Numerals.{add-one}
use native.Mathlib.Omega.{arith}
use borrow.Author.Tests.{eq-eqb}
use lib.Dec.{eqb}
use lib.ListN.{length, take, drop, get_or}
use lib.Seq.{drop-cons}
use Rattle.foundation.specs.Texts.{same}
use Rattle.foundation.proofs.ChoiceLaws.{same_true}

pub never : (b : Bool) → (b ≡ true → ⊥) → b ≡ false
never true h = absurd (h refl)
never false h = refl

pub never_both : {b : Bool} → b ≡ true → b ≡ false → ⊥
never_both e f = let z : ◌≡◌ {A = Bool} true false = sym e ∙ f in absurd_bool z
  where
    absurd_bool : ◌≡◌ {A = Bool} true false → ⊥
    absurd_bool e = cc

pub same_lengths : (s t : List ℕ) → (length s ≡ length t → ⊥) → same s t ≡ false
same_lengths s t h = never (same s t) λ e. h (ap length (same_true s t e))

-- from a place on where neither text has ended
pub same_next : (s t : List ℕ) (i : ℕ) → i < length s → i < length t → get_or s i 0 ≡ get_or t i 0 → same (drop i s) (drop i t) ≡ same (drop (i + 1) s) (drop (i + 1) t)
same_next s t i p q e = rw (drop-cons s i 0 p, drop-cons t i 0 q, eq-eqb (get_or s i 0) (get_or t i 0) e, add-one i)

-- a text and then another
pub same-joined : (s p t : List ℕ) → length p ≤ length s → same s (p ++ t) ≡ same (take (length p) s) p && same (drop (length p) s) t
same-joined s [] t h = refl
same-joined [] (b ∷ p) t h = absurd (omega arith)
same-joined (a ∷ s) (b ∷ p) t h = go (eqb a b) (same s (p ++ t)) (same (take (length p) s) p) (same (drop (length p) s) t) (same-joined s p t (omega arith))
  where
    go : (x u v w : Bool) → u ≡ v && w → x && u ≡ x && v && w
    go true u v w e = e
    go false u v w e = refl
