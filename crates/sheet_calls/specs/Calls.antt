-- What the answers of the exported functions tell.
-- Assumes nothing.
use Rattle.std.specs.Prelude.{◌≡◌, List, [], ◌∷◌, ℕ, ℤ, get_or}
use Rattle.characters.specs.WellFormed.{Units}
use Rattle.converter.specs.Conversions.{Conversion}
use Rattle.inputs.specs.Inputs.{Input, input}
use Rattle.inputs.specs.Outcomes as definition
use Rattle.metadata.specs.Read.{read}
use Rattle.defaults.specs.Demand.{Demand}
use Rattle.room.specs.Room.{Room, room}
use Rattle.strings.specs.Unused.{AlikeButStrings, NoneOfThree}
use Rattle.string_marks.specs.UsedStrings.{UsedAnswer}

-- an answer as five numbers, and what both areas hold afterwards
abbrev pub told_in : List ℕ → List ℕ → List ℕ → definition.Answer
told_in a sheet text = record {
  number = get_or a 0 0;
  detail = get_or a 1 0;
  sheet_length = get_or a 2 0;
  text_length = get_or a 3 0;
  types = get_or a 4 0;
  sheet = sheet;
  text = text;
}

-- What default descriptors say (`Demand`), of an accepted answer and any second one: whatever areas and input the second call is given. A call promises of
-- its own input that d2's units are of 16 bits, so that of two calls nothing is asked but that both are accepted.
abbrev pub DemandWithAny : Input → definition.Answer → Type 0
DemandWithAny i a =
    (sheet text : List ℕ) (j : Input) (b : definition.Answer) → read sheet text j ≡ b → Units j.d2 → b.number ≡ 0 → Demand i j a b

-- a room as nineteen numbers
abbrev pub room_in : List ℕ → Room
room_in a = record {
  number = get_or a 0 0;
  detail = get_or a 1 0;
  sheet_length = get_or a 2 0;
  text_length = get_or a 3 0;
  types = get_or a 4 0;
  records =
      get_or a 5 0 ∷ get_or a 6 0 ∷ get_or a 7 0 ∷ get_or a 8 0 ∷ get_or a 9 0 ∷ get_or a 10 0 ∷ get_or a 11 0 ∷ get_or a 12 0 ∷ get_or a 13 0 ∷ [];
  list_texts = get_or a 14 0 ∷ get_or a 15 0 ∷ get_or a 16 0 ∷ get_or a 17 0 ∷ get_or a 18 0 ∷ [];
}

-- The room of an input is that of any second one that is alike but for strings that the first one's reading doesn't fall to. Both may be refused.
abbrev pub UnusedInRoom : Input → Room → Type 0
UnusedInRoom i r = (j : Input) (q : Room) → room j ≡ q → NoneOfThree r.number → NoneOfThree q.number → AlikeButStrings i j → r ≡ q

-- a conversion's answer as three numbers, and what its area holds afterwards
abbrev pub converted_in : List ℕ → List ℕ → Conversion
converted_in a units = record { number = get_or a 0 0; detail = get_or a 1 0; size = get_or a 2 0; area = units }

-- Two d1's that are read alike: number, detail, both lengths, types and every byte of both areas are the same, whatever else is handed in.
abbrev pub SameSheets : List ℕ → List ℕ → Type 0
SameSheets d1 other =
    (sheet text : List ℕ) (k : ℤ) (mv : List ℤ) (d2 ends : List ℕ)
    → read sheet text (input k mv d1 d2 ends) ≡ read sheet text (input k mv other d2 ends)

-- an answer about strings as three numbers
abbrev pub used_in : List ℕ → UsedAnswer
used_in a = record { number = get_or a 0 0; detail = get_or a 1 0; count = get_or a 2 0 }
