-- What is promised of both conversions: when each refusal is given, and when what was converted comes back.
-- Assumes nothing.
use Rattle.std.specs.Prelude.{◌≡◌, ◌↔◌, ◌⊎◌, List, ℕ, ◌+◌, ◌-◌, ◌*◌, ◌/◌, ◌%◌, ◌^◌, ◌≤◌, ◌<◌, length, get_or, take, drop}
use Rattle.std.proofs.Math.Option.{some}
use Rattle.foundation.specs.Choices.{All}
use Rattle.encoding.specs.Encoding.{unit_limit, byte_string_marker, low_seven, first_above255}
use Rattle.converter.specs.Conversions.{too_many_units, Conversion, not_converted, converted_to, old_to_new, new_to_old}

-- The number is m exactly when the cause applies; where it doesn't, the rest says what the number is. So of several causes the first decides.
abbrev pub FirstGiven : ℕ → ℕ → Type 0 → Type 0 → Type 0
FirstGiven number m cause rest = (number ≡ m ↔ cause) × ((cause → ⊥) → rest)

-- The numbers from old to new, in their order; 0 where no cause applies.
abbrev pub OldToNewNumber : List ℕ → List ℕ → ℕ → Type 0
OldToNewNumber area d1 number =
    FirstGiven number 1 (unit_limit < length d1) (FirstGiven number 5 (length d1 ≡ 0) (FirstGiven number 15 (get_or d1 0 0 ≡ byte_string_marker)
    (FirstGiven number 6 ((unit : ℕ) × (first_above255 d1 ≡ some unit)) (FirstGiven number 12 (length area < 1 + 7 * length d1 / 8) (number ≡ 0)))))

-- And from new to old. 16 is given exactly when the low 7 bits of the first byte, which is unit 1, are all ones.
abbrev pub NewToOldNumber : List ℕ → List ℕ → ℕ → Type 0
NewToOldNumber area d1 number =
    FirstGiven number 1 (unit_limit < length d1) (FirstGiven number 5 ((length d1 ≡ 0) ⊎ ((length d1 ≡ 1) × (get_or d1 0 0 ≡ byte_string_marker)))
    (FirstGiven number 15 (get_or d1 0 0 ≡ byte_string_marker → ⊥) (FirstGiven number 6 ((unit : ℕ) × (first_above255 d1 ≡ some unit))
    (FirstGiven number 16 (get_or d1 1 0 % 128 ≡ 127) (FirstGiven number 12 (length area < (8 * (length d1 - 1) + 6) / 7) (number ≡ 0))))))

-- The detail is the first unit above 255, or 0. A refusal leaves the area as it was; else what stands past the length is as it was.
pub record AnswerKept (area d1 : List ℕ) (a : Conversion) : Type 0 where
  pub unit : a.number ≡ 6 → first_above255 d1 ≡ some a.detail
  pub no_detail : (a.number ≡ 6 → ⊥) → a.detail ≡ 0
  pub untouched : (a.number ≡ 0 → ⊥) → (a.size ≡ 0) × (a.area ≡ area)
  pub inside : a.size ≤ length area
  pub past : drop a.size a.area ≡ drop a.size area

-- what a conversion wrote
abbrev pub written_units : Conversion → List ℕ
written_units a = take a.size a.area

-- the most bytes whose old form d1 may have: 28,672
abbrev pub old_bytes_limit : ℕ
old_bytes_limit = 7 * unit_limit / 8

-- the longest that is written: 28,673 units from old to new, 37,448 from new to old; areas as long are always enough
abbrev pub longest_new : ℕ
longest_new = 1 + old_bytes_limit

abbrev pub longest_old : ℕ
longest_old = (8 * (unit_limit - 1) + 6) / 7

-- From new to old and back: d1 comes back into any area that has room for it. More bytes than the limit give units that are refused with 1.
pub record ComesBackNew (d1 : List ℕ) (a : Conversion) : Type 0 where
  pub same : length d1 ≤ 1 + old_bytes_limit → (area : List ℕ) → old_to_new area (written_units a) ≡ converted_to area d1
  pub more : 1 + old_bytes_limit < length d1 → (area : List ℕ) → old_to_new area (written_units a) ≡ not_converted area too_many_units

-- Old units as packing makes them:
pub record AsPacked (units : List ℕ) : Type 0 where
  -- all are below 128,
  pub below : All (λ u. u < 128) units
  -- no fewer would do for as many bytes,
  pub no_fewer : (n : ℕ) → n < length units → 7 * n / 8 < 7 * length units / 8
  -- and the last group's spare bits, which fill no byte, are zero.
  pub spare_zero : low_seven (get_or units (length units - 1) 0) < 2 ^ (7 - 7 * length units % 8)

-- From old to new and back: d1 comes back into any area that has room for it if its units are as packing makes them, and only then.
pub record ComesBackOld (d1 : List ℕ) (a : Conversion) : Type 0 where
  pub same : AsPacked d1 → (area : List ℕ) → new_to_old area (written_units a) ≡ converted_to area d1
  pub only : (area : List ℕ) → length d1 ≤ length area → new_to_old area (written_units a) ≡ converted_to area d1 → AsPacked d1
