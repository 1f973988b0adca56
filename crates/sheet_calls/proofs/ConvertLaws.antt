-- What the exported conversions ensure, clause by clause; and that both forms of a d1 are read alike.
-- Assumes nothing.
use mathlib.Core.Path.{◌≡◌, refl, sym, subst}
use mathlib.Core.List.{List}
use Prim.Native.Nat.{ℕ, ◌+◌, ◌≤◌}
use native.Mathlib.Omega.{arith}
use borrow.Author.Tests.{le-ltb}
use lib.ListN.{length, drop}
use Rattle.foundation.specs.Results.{d1_too_long, empty_payload, not_a_byte, sheet_too_long}
use Rattle.encoding.specs.Encoding.{unit_limit, decoded}
use Rattle.encoding.proofs.EncodingLaws.{length-unpacked}
use Rattle.converter.specs.Conversions.{fault_number, fault_detail, too_many_units, nothing_there, unit_above255, units_area_too_short, old_units, Conversion, old_to_new, new_to_old}
use Rattle.converter.specs.Statements.{OldToNewNumber, NewToOldNumber, AnswerKept, old_bytes_limit, longest_new, longest_old, written_units, ComesBackNew, ComesBackOld}
use Rattle.converter.proofs.Refusals.{old_numbers, old_enough, old_kept, new_numbers, new_enough, new_kept}
use Rattle.converter.proofs.ComesBack.{old_accepted, new_accepted, packed-ready, old_decoded, new_decoded, comes_back_old, comes_back_new}
use Rattle.inputs.specs.Refusals.{number_of, detail_of}
use Rattle.inputs.specs.Inputs.{fault_of, later_fault}
use Rattle.metadata.specs.Read.{reading, read}
use Rattle.sheet_calls.specs.Calls.{SameSheets}

-- d1's that are decoded alike, both within the limit, are read alike
same_sheets : (d1 other : List ℕ) → length d1 ≤ unit_limit → length other ≤ unit_limit → decoded d1 ≡ decoded other → SameSheets d1 other
unfolding read reading fault_of later_fault
same_sheets d1 other h l e sheet text k mv d2 ends = rw (le-ltb unit_limit (length d1) h, le-ltb unit_limit (length other) l, e)

-- What `sheet_old_to_new` ensures of its answer.
abbrev pub OldAnswers : List ℕ → List ℕ → Conversion → Type 0
OldAnswers area d1 a =
    (old_to_new area d1 ≡ a)
    × (OldToNewNumber area d1 a.number
    × ((longest_new ≤ length area → a.number ≡ 12 → ⊥)
    × (AnswerKept area d1 a × ((a.number ≡ 0 → ComesBackOld d1 a) × (a.number ≡ 0 → SameSheets d1 (written_units a))))))

pub old_answers : (area d1 : List ℕ) (a : Conversion) → old_to_new area d1 ≡ a → OldAnswers area d1 a
old_answers area d1 a e =
    let numbers = subst (λ (x : Conversion). OldToNewNumber area d1 x.number) e (old_numbers area d1) in
    let kept = subst (AnswerKept area d1) e (old_kept area d1) in
    (e, (numbers, (old_enough area d1 a.number numbers, (kept, (comes_back_old area d1 a e, sheets)))))
  where
    sheets : a.number ≡ 0 → SameSheets d1 (written_units a)
    sheets z =
        let h = old_accepted area d1 a e z in
        let r = h.0 in
        subst (SameSheets d1) (sym h.1)
        (same_sheets d1 _ r.within (omega (arith, length-unpacked d1, r.within)) (old_decoded d1 r))

-- What `sheet_new_to_old` ensures of its answer.
abbrev pub NewAnswers : List ℕ → List ℕ → Conversion → Type 0
NewAnswers area d1 a =
    (new_to_old area d1 ≡ a)
    × (NewToOldNumber area d1 a.number
    × ((longest_old ≤ length area → a.number ≡ 12 → ⊥)
    × (AnswerKept area d1 a
    × ((a.number ≡ 0 → ComesBackNew d1 a) × (a.number ≡ 0 → length d1 ≤ 1 + old_bytes_limit → SameSheets d1 (written_units a))))))

pub new_answers : (area d1 : List ℕ) (a : Conversion) → new_to_old area d1 ≡ a → NewAnswers area d1 a
new_answers area d1 a e =
    let numbers = subst (λ (x : Conversion). NewToOldNumber area d1 x.number) e (new_numbers area d1) in
    let kept = subst (AnswerKept area d1) e (new_kept area d1) in
    (e, (numbers, (new_enough area d1 a.number numbers, (kept, (comes_back_new area d1 a e, sheets)))))
  where
    sheets : a.number ≡ 0 → length d1 ≤ 1 + old_bytes_limit → SameSheets d1 (written_units a)
    sheets z l =
        let h = new_accepted area d1 a e z in
        let r = h.0 in
        subst (SameSheets d1) (sym h.1)
        (same_sheets d1 (old_units (drop 1 d1)) r.within (packed-ready d1 r l).within (new_decoded d1 r l))

-- The numbers that conversions share with the reader are the reader's, and so are their details.
pub shared_numbers : (unit place : ℕ)
    → (fault_number too_many_units ≡ number_of d1_too_long)
    × (fault_number nothing_there ≡ number_of empty_payload)
    × (fault_number (unit_above255 unit) ≡ number_of (not_a_byte unit))
    × (fault_detail (unit_above255 unit) ≡ detail_of (not_a_byte unit) place)
    × (fault_number units_area_too_short ≡ number_of sheet_too_long)
unfolding number_of detail_of
shared_numbers unit place = (refl, refl, refl, refl, refl)
