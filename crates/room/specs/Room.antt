-- The room that the sheet and text of an input take, told without areas to write into.
-- Assumes nothing.
use Rattle.std.specs.Prelude.{List, [], ◌∷◌, map, ℕ, ◌+◌, ◌-◌, length}
use Rattle.foundation.specs.Results.{Cause, Res, ok, refused}
use Rattle.sheet.specs.Rows.{Row, texts, sheet_from}
use Rattle.declaration_rows.specs.Declarations.{Declarations}
use Rattle.schema.specs.Reading.{allowance}
use Rattle.schema.specs.Counting.{count_kind}
use Rattle.inputs.specs.Refusals.{number_of, detail_of}
use Rattle.inputs.specs.Inputs.{Input, kind_of}
use Rattle.members.specs.Lists.{section_rows}
use Rattle.members.specs.declared.list.Member.TheVariants as member
use Rattle.declarations.specs.Payload.{head_row, declaration_rows}
use Rattle.metadata.specs.Read.{reading}

-- Number and detail of a refusal, both lengths, the types, how many records there are of kind 1, of kind 2, .., of kind 9, and the bytes of text of
-- the properties, functions, constructors, aliases and head.
pub record Room : Type 0 where
  pub number : ℕ
  pub detail : ℕ
  pub sheet_length : ℕ
  pub text_length : ℕ
  pub types : ℕ
  pub records : List ℕ
  pub list_texts : List ℕ

-- the kinds of the record table
abbrev pub record_kinds : List ℕ
record_kinds = 1 ∷ 2 ∷ 3 ∷ 4 ∷ 5 ∷ 6 ∷ 7 ∷ 8 ∷ 9 ∷ []

abbrev pub record_counts : List Row → List ℕ
record_counts rows = map (λ k. count_kind k rows) record_kinds

-- The lists by which text is counted, in this order: properties, functions, constructors, aliases, and the head as a list of one.
-- The rows of a list are its records and all they own: parameters, types, default descriptors. Kind 9 is of no list, and has no text.
abbrev pub lists_of : ℕ → Declarations → List (List Row)
lists_of kind d =
    section_rows member.Property d ∷ section_rows member.Function d ∷ section_rows member.Constructor d ∷ section_rows member.Alias d ∷ (head_row kind d ∷ []) ∷ []

abbrev pub text_lengths : List (List Row) → List ℕ
text_lengths = map λ rows. length (texts rows)

abbrev pub sum : List ℕ → ℕ
sum [] = 0
sum (n ∷ rest) = n + sum rest

-- The text's length is its true one, also where no area may hold it.
abbrev pub room_of : ℕ → Declarations → ℕ → Room
room_of kind d n = record {
  number = 0;
  detail = 0;
  sheet_length = length (sheet_from 0 (declaration_rows kind d));
  text_length = length (texts (declaration_rows kind d));
  types = n;
  records = record_counts (declaration_rows kind d);
  list_texts = text_lengths (lists_of kind d);
}

-- a refusal, all else 0
abbrev pub room_refused : Cause → ℕ → Room
room_refused c place = record {
  number = number_of c;
  detail = detail_of c place;
  sheet_length = 0;
  text_length = 0;
  types = 0;
  records = map (λ k. 0) record_kinds;
  list_texts = 0 ∷ 0 ∷ 0 ∷ 0 ∷ 0 ∷ [];
}

abbrev pub room_by : ℕ → Res (Declarations × ℕ) → Room
room_by kind (refused c place) = room_refused c place
room_by kind (ok r) = room_of kind r.0 (allowance - r.1)

-- 11 and 12 are not among its refusals: they are for the areas.
unfoldable pub room : Input → Room
room i = room_by (kind_of i.k) (reading i)
