-- Which strings of d2 the reading of an input falls to, as marks, one for each string.
-- Assumes nothing.
use Rattle.std.specs.Prelude.{◌≡◌, ◌⊎◌, List, ℕ, ◌≤◌, ◌<◌, length, take, drop, get_or, eqb, count_by}
use Rattle.std.proofs.Math.ListN.{get_elem?}
use Rattle.foundation.specs.Results.{Cause, Res, ok, refused, sheet_too_long}
use Rattle.inputs.specs.Inputs.{Input}
use Rattle.inputs.specs.Refusals.{number_of, detail_of}
use Rattle.declaration_rows.specs.Declarations.{Declarations}
use Rattle.metadata.specs.Read.{strings_of, reading}
use Rattle.strings.specs.FallsTo.{FallsTo, PassesBy}
use Rattle.strings.specs.Unused.{AlikeButStrings}

-- Number and detail of a refusal, and how many strings are fallen to.
pub record UsedAnswer : Type 0 where
  pub number : ℕ
  pub detail : ℕ
  pub count : ℕ

abbrev pub used_refused : Cause → ℕ → UsedAnswer
used_refused c place = record { number = number_of c; detail = detail_of c place; count = 0 }

-- how many marks are 1
abbrev pub set_marks : List ℕ → ℕ
set_marks marks = count_by (λ m. eqb m 1) marks

-- Each string that the reading falls to has a 1, each other a 0; what stands past the strings' marks stays.
pub record UsedMarks (i : Input) (used used' : List ℕ) : Type 0 where
  pub many : length used' ≡ length used
  pub each : (n : ℕ) → n < length i.ends → (FallsTo i n × (get_or used' n 0 ≡ 1)) ⊎ (PassesBy i n × (get_or used' n 0 ≡ 0))
  pub rest : drop (length i.ends) used' ≡ drop (length i.ends) used

-- What is told of an accepted reading: 12 where there are fewer places than strings, else the marks and how many strings are fallen to.
pub data UsedAccepted (i : Input) (used used' : List ℕ) (a : UsedAnswer) : Type 0 where
  too_few : length used < length i.ends → a ≡ used_refused sheet_too_long 0 → used' ≡ used → UsedAccepted i used used' a
  all_marked : length i.ends ≤ length used → UsedMarks i used used' → a ≡ record { number = 0; detail = 0; count = set_marks (take (length i.ends) used') } → UsedAccepted i used used' a

-- By what is read: a refused reading's number and detail, with all marks as they were, or what is told of an accepted one.
abbrev pub UsedBy : Res (Declarations × ℕ) → Input → (used used' : List ℕ) → UsedAnswer → Type 0
UsedBy (refused c place) i used used' a = (a ≡ used_refused c place) × (used' ≡ used)
UsedBy (ok read) i used used' a = UsedAccepted i used used' a

unfoldable pub UsedStrings : Input → (used used' : List ℕ) → UsedAnswer → Type 0
UsedStrings i used used' a = UsedBy (reading i) i used used' a

-- What marks are good for: any second input of the same k, mv and d1 and with as many strings, which has the same string wherever there is a 1, is alike in
-- all that the first one's reading falls to. So both have the same answer (`UnusedStrings`).
abbrev pub MarksTell : Input → (marks : List ℕ) → Type 0
MarksTell i marks =
    (j : Input) → i.k ≡ j.k → i.mv ≡ j.mv → i.d1 ≡ j.d1 → length i.ends ≡ length j.ends
    → ((n : ℕ) → n < length i.ends → get_or marks n 0 ≡ 1 → get_elem? (strings_of i) n ≡ get_elem? (strings_of j) n) → AlikeButStrings i j
