-- What may be absent: elements of a list by their index, and options by whether they are there.
-- Assumes nothing.
use mathlib.Core.Path.{◌≡◌, refl}
use mathlib.Core.Bool.{true, false}
use mathlib.Core.List.{List, [], ◌∷◌}
use mathlib.Core.Option.{Option, none, some}
use Prim.Native.Nat.{ℕ, zero, suc, ◌≤◌, ◌<◌}
use native.Mathlib.Omega.{arith}
use lib.ListN.{length, get_elem?}
use Rattle.foundation.specs.Choices.{is_some}

pub elem_none : {A : Type 0} (l : List A) (i : ℕ) → length l ≤ i → get_elem? l i ≡ none
elem_none [] i h = refl
elem_none (a ∷ l) zero h = absurd (omega arith)
elem_none (a ∷ l) (suc i) h = elem_none l i (omega arith)

pub elem_there : {A : Type 0} (l : List A) (i : ℕ) → i < length l → (a : A) × (get_elem? l i ≡ some a)
elem_there [] i h = absurd (omega arith)
elem_there (a ∷ l) zero h = (a, refl)
elem_there (a ∷ l) (suc i) h = elem_there l i (omega arith)

pub elem_below : {A : Type 0} (l : List A) (k : ℕ) {a : A} → get_elem? l k ≡ some a → k < length l
elem_below [] k e = let z : ◌≡◌ {A = ℕ} 0 1 = cc in absurd (omega arith)
elem_below (x ∷ l) zero e = omega arith
elem_below (x ∷ l) (suc k) e = omega (arith, elem_below l k e)

pub none_is : {A : Type 0} (o : Option A) → is_some o ≡ false → o ≡ none
none_is none e = refl
none_is (some a) e = let z : ◌≡◌ {A = ℕ} 0 1 = cc in absurd (omega arith)

pub some_is : {A : Type 0} (o : Option A) → is_some o ≡ true → (a : A) × (o ≡ some a)
some_is none e = let z : ◌≡◌ {A = ℕ} 0 1 = cc in absurd (omega arith)
some_is (some a) e = (a, refl)
