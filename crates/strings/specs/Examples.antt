-- Readings with the strings that they fall to and those that they pass by, and whether a changed string changes the answer.
-- Assumes nothing.
use Rattle.std.specs.Prelude.{◌≡◌, ◌≢◌, List, [], ◌∷◌, ℕ, pos, replicate}
use Rattle.foundation.specs.Choices.{All}
use Rattle.foundation.specs.Texts.{ascii}
use Rattle.inputs.specs.Inputs.{Input, input}
use Rattle.inputs.specs.Outcomes.{Answer}
use Rattle.metadata.specs.Read.{read}
use Rattle.strings.specs.FallsTo.{FallsTo, PassesBy}

pub record Example : Type 0 where
  pub given : Input
  pub fallen : List ℕ
  pub passed : List ℕ

abbrev pub Shown : Example → Type 0
Shown e = All (FallsTo e.given) e.fallen × All (PassesBy e.given) e.passed

-- by metadata kind, the payload after the marker, d2 as a text, the strings' ends
abbrev pub made_input : ℕ → List ℕ → List ℕ → List ℕ → Input
made_input k bytes d2 ends = input (pos k) (pos 1 ∷ pos 9 ∷ pos 0 ∷ []) (0 ∷ bytes) d2 ends

-- with the strings "f", "n" and "d"
abbrev pub with_three : ℕ → List ℕ → List ℕ → List ℕ → Example
with_three k bytes fallen passed =
    record { given = made_input k bytes (ascii "fnd") (1 ∷ 2 ∷ 3 ∷ []); fallen = fallen; passed = passed }

-- A function with the name 0 and a signature of the name 1 without a descriptor: it counts although the text is dropped.
abbrev pub signature_name : List ℕ
signature_name = 0 ∷ 26 ∷ 7 ∷ 16 ∷ 0 ∷ 162 ∷ 6 ∷ 2 ∷ 8 ∷ 1 ∷ []

-- the same with the descriptor 2
abbrev pub signature_both : List ℕ
signature_both = 0 ∷ 26 ∷ 9 ∷ 16 ∷ 0 ∷ 162 ∷ 6 ∷ 4 ∷ 8 ∷ 1 ∷ 16 ∷ 2 ∷ []

-- A property with the name 0, a backing field of the name 1 without a descriptor, which counts alike, and a getter that has no name, only the descriptor
-- 2: that is never looked up.
abbrev pub getter_descriptor : List ℕ
getter_descriptor = 0 ∷ 34 ∷ 13 ∷ 16 ∷ 0 ∷ 162 ∷ 6 ∷ 8 ∷ 10 ∷ 2 ∷ 8 ∷ 1 ∷ 26 ∷ 2 ∷ 16 ∷ 2 ∷ []

-- A function whose name 3 is no string: it is skipped, and the name 1 of its return type is never looked up. String 3 isn't there to be fallen to.
abbrev pub skipped_function : List ℕ
skipped_function = 0 ∷ 26 ∷ 6 ∷ 16 ∷ 3 ∷ 26 ∷ 2 ∷ 48 ∷ 1 ∷ []

-- A function with the name 0 whose return type has the name 2 and a star, in which the type with the name 1 is never read.
abbrev pub star_argument : List ℕ
star_argument = 0 ∷ 26 ∷ 14 ∷ 16 ∷ 0 ∷ 26 ∷ 10 ∷ 18 ∷ 6 ∷ 8 ∷ 3 ∷ 18 ∷ 2 ∷ 48 ∷ 1 ∷ 48 ∷ 2 ∷ []

-- A function with the name 0 whose return type has a broken argument, and the name 1: refused before that name is looked up.
abbrev pub broken_argument : List ℕ
broken_argument = 0 ∷ 26 ∷ 9 ∷ 16 ∷ 0 ∷ 26 ∷ 5 ∷ 18 ∷ 1 ∷ 11 ∷ 48 ∷ 1 ∷ []

-- A class with the name 0 and a broken constructor: refused, and the name was looked up before.
abbrev pub broken_constructor : List ℕ
broken_constructor = 0 ∷ 24 ∷ 0 ∷ 66 ∷ 1 ∷ 11 ∷ []

-- A name table with two records, predefined 2 for index 0 and one that decides nothing for index 1; a function of the name 0 and the return type 1.
abbrev pub decided_name : List ℕ
decided_name = 8 ∷ 10 ∷ 2 ∷ 16 ∷ 2 ∷ 10 ∷ 2 ∷ 8 ∷ 1 ∷ 26 ∷ 6 ∷ 16 ∷ 0 ∷ 26 ∷ 2 ∷ 48 ∷ 1 ∷ []

abbrev pub examples : List Example
examples =
    with_three 2 signature_name (0 ∷ 1 ∷ []) (2 ∷ [])
    ∷ with_three 2 signature_both (0 ∷ 1 ∷ 2 ∷ []) []
    ∷ with_three 2 getter_descriptor (0 ∷ 1 ∷ []) (2 ∷ [])
    ∷ with_three 2 skipped_function [] (0 ∷ 1 ∷ 2 ∷ 3 ∷ [])
    ∷ with_three 2 star_argument (0 ∷ 2 ∷ []) (1 ∷ [])
    ∷ with_three 2 broken_argument (0 ∷ []) (1 ∷ 2 ∷ [])
    ∷ with_three 1 broken_constructor (0 ∷ []) (1 ∷ 2 ∷ [])
    ∷ with_three 2 decided_name (1 ∷ []) (0 ∷ 2 ∷ [])
    ∷ with_three 3 signature_name [] (0 ∷ 1 ∷ 2 ∷ [])
    ∷ []

-- the answer to a package, with its strings of one unit each, read into areas of 64 and 8 bytes
abbrev pub answer_to : List ℕ → List ℕ → Answer
answer_to bytes d2 = read (replicate 64 0) (replicate 8 0) (made_input 2 bytes d2 (1 ∷ 2 ∷ 3 ∷ []))

-- The theorem turned round is false. A string that is fallen to mostly shows: "g" in the place of "f" is another name on the sheet, "e" in the place of
-- "d" another descriptor where the signature has both. But a signature's name without a descriptor is dropped, whatever it is.
pub record ChangedStrings : Type 0 where
  pub name : answer_to signature_name (ascii "fnd") ≢ answer_to signature_name (ascii "gnd")
  pub descriptor : answer_to signature_both (ascii "fnd") ≢ answer_to signature_both (ascii "fne")
  pub dropped : answer_to signature_name (ascii "fnd") ≡ answer_to signature_name (ascii "fmd")
