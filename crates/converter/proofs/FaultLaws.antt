-- Laws of what is refused of d1, cause by cause, as the code finds it.
-- Assumes nothing.
use mathlib.Core.Path.{◌≡◌, refl, ◌∙◌}
use mathlib.Core.List.{List, [], ◌∷◌}
use mathlib.Core.Bool.{Bool, true, false}
use mathlib.Core.Option.{Option, none, some}
use Prim.Native.Nat.{ℕ, suc, ◌+◌, ◌*◌, ◌/◌, ◌%◌, ◌≤◌, ◌<◌}
use native.Mathlib.Omega.{arith}
use borrow.Author.Tests.{lt-ltb, le-ltb, eq-eqb, ne_eqb, ltb-false, eqb-false}
use lib.Dec.{eqb, ltb}
use lib.ListN.{length, get_or, drop}
use Rattle.std.specs.Prelude.{◌||◌, if◌then◌else◌}
use Rattle.foundation.specs.Choices.{map_option}
use Rattle.foundation.specs.Digits.{number}
use Rattle.encoding.specs.Encoding.{unit_limit, byte_string_marker, first_above255}
use Rattle.converter.specs.Conversions.{
  ConversionFault,
  carrying,
  old_units,
  too_many_units,
  nothing_there,
  wrong_form,
  unit_above255,
  first_unit_zero,
  old_fault,
  new_fault,
}
use Rattle.converter.specs.told.ConversionTold.{size_fault, byte_fault}

-- d1's size: refused as both conversions refuse it, or within what both ask
either : {A : Type 0} (a b : A) {f : A} (s t u : Bool) (form : Option A) → (t ≡ true → u ≡ true)
    → (if s then some a else if t then some b else none) ≡ some f
    → (if s then some a else if u then some b else form) ≡ some f
either a b true t u form h e = e
either a b false true u form h e = rw (h refl) e
either a b false false u form h e = cc

pub old-sized : (d1 : List ℕ) {f : ConversionFault} → size_fault d1 ≡ some f → old_fault d1 ≡ some f
unfolding old_fault
old-sized d1 e = either _ _ (ltb unit_limit (length d1)) (eqb (length d1) 0) (eqb (length d1) 0) _ (λ t. t) e

or_left : (t u : Bool) → t ≡ true → (t || u) ≡ true
or_left t u e = rw e

pub new-sized : (d1 : List ℕ) {f : ConversionFault} → size_fault d1 ≡ some f → new_fault d1 ≡ some f
unfolding new_fault
new-sized d1 e = either _ _ (ltb unit_limit (length d1)) (eqb (length d1) 0) _ _ (or_left (eqb (length d1) 0) _) e

pub sized : (d1 : List ℕ) → size_fault d1 ≡ none → (length d1 ≤ unit_limit) × (length d1 ≡ 0 → ⊥)
sized d1 e = go (ltb unit_limit (length d1)) (eqb (length d1) 0) refl refl e
  where
    go : (s t : Bool) → ltb unit_limit (length d1) ≡ s → eqb (length d1) 0 ≡ t
        → (if s then some too_many_units else if t then some nothing_there else none) ≡ none
        → (length d1 ≤ unit_limit) × (length d1 ≡ 0 → ⊥)
    go true t p q e = (cc, cc)
    go false true p q e = (cc, cc)
    go false false p q e = (ltb-false _ _ p, eqb-false _ _ q)

pub no_fault : (d1 : List ℕ) → byte_fault d1 ≡ none → first_above255 d1 ≡ none
no_fault d1 e = go (first_above255 d1) e
  where
    go : (o : Option ℕ) → map_option unit_above255 o ≡ none → o ≡ none
    go none e = refl
    go (some unit) e = cc

-- the first unit of some bytes' old form is made of the first byte's low 7 bits
packed-first : (b : ℕ) (bs : List ℕ) → get_or (old_units (b ∷ bs)) 0 0 ≡ carrying (b % 128)
unfolding old_units
packed-first b bs =
    let n = number 256 bs in
    let e : (8 * suc (length bs) + 6) / 7 ≡ suc ((8 * length bs + 7) / 7) = omega arith in
    let m : (b + 256 * n) % 128 ≡ b % 128 = omega arith in
    rw (e, m)

module _ (d1 : List ℕ) where
  pub old-long : unit_limit < length d1 → old_fault d1 ≡ some too_many_units
  unfolding old_fault
  old-long h = simp (lt-ltb _ _ h)

  pub new-long : unit_limit < length d1 → new_fault d1 ≡ some too_many_units
  unfolding new_fault
  new-long h = simp (lt-ltb _ _ h)

  module _ (within : length d1 ≤ unit_limit) where
    pub old-empty : length d1 ≡ 0 → old_fault d1 ≡ some nothing_there
    unfolding old_fault
    old-empty h = simp (le-ltb _ _ within, eq-eqb _ _ h)

    pub new-empty : length d1 ≡ 0 → new_fault d1 ≡ some nothing_there
    unfolding new_fault
    new-empty h = simp (le-ltb _ _ within, eq-eqb _ _ h)

    module _ (there : length d1 ≡ 0 → ⊥) where
      pub old-marked : get_or d1 0 0 ≡ byte_string_marker → old_fault d1 ≡ some wrong_form
      unfolding old_fault
      old-marked e = simp (le-ltb _ _ within, ne_eqb _ _ there, eq-eqb _ _ e)

      pub new-unmarked : (get_or d1 0 0 ≡ byte_string_marker → ⊥) → new_fault d1 ≡ some wrong_form
      unfolding new_fault
      new-unmarked n = simp (le-ltb _ _ within, ne_eqb _ _ there, ne_eqb _ _ n)

      module _ (old : get_or d1 0 0 ≡ byte_string_marker → ⊥) where
        pub old-bytes : old_fault d1 ≡ byte_fault d1
        unfolding old_fault
        old-bytes = simp (le-ltb _ _ within, ne_eqb _ _ there, ne_eqb _ _ old)

        pub old-above : {unit : ℕ} → first_above255 d1 ≡ some unit → old_fault d1 ≡ some (unit_above255 unit)
        unfolding old_fault
        old-above e = simp (le-ltb _ _ within, ne_eqb _ _ there, ne_eqb _ _ old, e)

        pub old-fine : first_above255 d1 ≡ none → old_fault d1 ≡ none
        unfolding old_fault
        old-fine e = simp (le-ltb _ _ within, ne_eqb _ _ there, ne_eqb _ _ old, e)

      module _ (marked : get_or d1 0 0 ≡ byte_string_marker) where
        pub new-alone : length d1 ≡ 1 → new_fault d1 ≡ some nothing_there
        unfolding new_fault
        new-alone h = simp (le-ltb _ _ within, ne_eqb _ _ there, eq-eqb _ _ h, eq-eqb _ _ marked)

        module _ (more : length d1 ≡ 1 → ⊥) where
          pub new-above : {unit : ℕ} → first_above255 d1 ≡ some unit → new_fault d1 ≡ some (unit_above255 unit)
          unfolding new_fault
          new-above e = simp (le-ltb _ _ within, ne_eqb _ _ there, ne_eqb _ _ more, eq-eqb _ _ marked, e)

          pub new-byte : {f : ConversionFault} → byte_fault d1 ≡ some f → new_fault d1 ≡ some f
          unfolding new_fault
          new-byte e = simp (le-ltb _ _ within, ne_eqb _ _ there, ne_eqb _ _ more, eq-eqb _ _ marked, e)

          module _ (bytes : first_above255 d1 ≡ none) where
            new-zero : get_or (old_units (drop 1 d1)) 0 0 ≡ byte_string_marker → new_fault d1 ≡ some first_unit_zero
            unfolding new_fault
            new-zero e = simp (le-ltb _ _ within, ne_eqb _ _ there, ne_eqb _ _ more, eq-eqb _ _ marked, bytes, eq-eqb _ _ e)

            new-fine : (get_or (old_units (drop 1 d1)) 0 0 ≡ byte_string_marker → ⊥) → new_fault d1 ≡ none
            unfolding new_fault
            new-fine n = simp (le-ltb _ _ within, ne_eqb _ _ there, ne_eqb _ _ more, eq-eqb _ _ marked, bytes, ne_eqb _ _ n)

-- the first unit of what stands after the marker
pub first-unit : (d1 : List ℕ) → (length d1 ≡ 0 → ⊥) → (length d1 ≡ 1 → ⊥) → get_or (old_units (drop 1 d1)) 0 0 ≡ carrying (get_or d1 1 0 % 128)
first-unit [] h m = absurd (h refl)
first-unit (u ∷ []) h m = absurd (m refl)
first-unit (u ∷ b ∷ bs) h m = packed-first b bs

module _ (d1 : List ℕ) (within : length d1 ≤ unit_limit)
    (there : length d1 ≡ 0 → ⊥)
    (marked : get_or d1 0 0 ≡ byte_string_marker)
    (more : length d1 ≡ 1 → ⊥)
    (bytes : first_above255 d1 ≡ none)
  where
    pub new-ones : get_or d1 1 0 % 128 ≡ 127 → new_fault d1 ≡ some first_unit_zero
    new-ones h = new-zero d1 within there marked more bytes (first-unit d1 there more ∙ rw h)

    pub new-other : (get_or d1 1 0 % 128 ≡ 127 → ⊥) → new_fault d1 ≡ none
    new-other h = new-fine d1 within there marked more bytes λ z. h (omega (arith, first-unit d1 there more))
