-- What is promised of an accepted answer, on the bytes of its two areas; areas that are always enough; and where a refused payload broke.
-- Assumes nothing.
use Rattle.std.specs.Prelude.{◌≡◌, Bool, ◌||◌, List, ℕ, ◌+◌, ◌≤◌, ◌<◌, eqb, length, take}
use Rattle.std.proofs.Math.Option.{some}
use Rattle.foundation.specs.Results.{ok}
use Rattle.encoding.specs.Encoding.{decoded}
use Rattle.sheet.specs.Rows.{Row}
use Rattle.sheet.specs.Reading.{rows_of}
use Rattle.sheet.specs.Refs.{refs_of, CutInOrder}
use Rattle.characters.specs.WellFormed.{WellFormed}
use Rattle.declaration_rows.specs.Declarations.{Declarations}
use Rattle.schema.specs.Reading.{allowance}
use Rattle.schema.specs.Counting.{count_kind}
use Rattle.inputs.specs.Inputs.{Input, kind_of}
use Rattle.inputs.specs.Outcomes.{Answer}
use Rattle.passes.specs.Answered.{text_limit}
use Rattle.metadata.specs.Read.{reading, read}
use Rattle.promises.specs.Walk.{walk, sheet_of}

-- what stands in the areas up to the lengths told
abbrev pub sheet_bytes : Answer → List ℕ
sheet_bytes a = take a.sheet_length a.sheet

abbrev pub text_bytes : Answer → List ℕ
text_bytes a = take a.text_length a.text

-- The longest sheet: 20 bytes for the head and 3 for the count of type aliases, 12 for each of at most 32,766 bytes of a body, 10 for each of at most 2,048 types. It is SHEET_LONGEST of
-- include/sheet_reader.h.
abbrev pub longest_sheet : ℕ
longest_sheet = 413695

pub record Promised (i : Input) (a : Answer) : Type 0 where
  -- The input was read as these declarations,
  pub declarations : Declarations
  pub left : ℕ
  pub reads : reading i ≡ ok (declarations, left)
  -- and a walk that believes each count on the sheet and takes exactly what it announces ends at the sheet's length and gives them back.
  pub walks : walk (sheet_bytes a) (text_bytes a) ≡ some (sheet_of (kind_of i.k) declarations)
  -- The type count is the number of type records on the sheet.
  pub records : List Row
  pub are_records : rows_of (sheet_bytes a) (text_bytes a) ≡ some records
  pub types_counted : a.types ≡ count_kind 6 records
  -- It is the number of types that the reading entered: together with those that it might still have entered they make the allowance of 2,048.
  pub types_entered : a.types + left ≡ allowance
  -- The refs on the sheet cut the whole text in order, each into well-formed UTF-8.
  pub text_cut : CutInOrder WellFormed (text_bytes a) 0 a.text_length (refs_of (sheet_bytes a))
  -- Sheet and text are no longer than areas that are always enough: 413,695 bytes and 65,534.
  pub sheet_short : a.sheet_length ≤ longest_sheet
  pub text_short : a.text_length ≤ text_limit

-- Areas of these sizes are always enough, whatever is handed in: of the answer a of `read` to an input i and two areas,
pub record Enough (sheet text : List ℕ) (i : Input) (a : Answer) : Type 0 where
  -- a sheet area of 413,695 bytes is never too short (refusal 12),
  pub sheet_enough : longest_sheet ≤ length sheet → a.number ≡ 12 → ⊥
  -- a text that is too long (refusal 11) for a text area of 65,534 bytes is too long for every area,
  pub text_enough : text_limit ≤ length text → a.number ≡ 11 → (sheet' text' : List ℕ) → (read sheet' text' i).number ≡ 11
  -- and with both an input is accepted if it is with any other areas, with the same sheet and the same text.
  pub both_enough : longest_sheet ≤ length sheet → text_limit ≤ length text → (sheet' text' : List ℕ) → (read sheet' text' i).number ≡ 0
      → (a.number ≡ 0) × (sheet_bytes a ≡ sheet_bytes (read sheet' text' i)) × (text_bytes a ≡ text_bytes (read sheet' text' i))

-- The numbers whose detail is an offset among the decoded bytes.
abbrev pub tells_offset : ℕ → Bool
tells_offset number = eqb number 7 || (eqb number 8 || (eqb number 9 || (eqb number 13 || (eqb number 14 || eqb number 17))))

-- Where an answer with such a number says that the payload broke:
pub record BrokeAt (i : Input) (a : Answer) : Type 0 where
  -- d1 was decoded,
  pub bytes : List ℕ
  pub decodes : decoded i.d1 ≡ ok bytes
  -- and the detail is an offset among its bytes. It is their number only if a varint (7) or a fixed value (13) is missing at the very end;
  pub offset : a.detail ≤ length bytes
  -- a tag (8, 14, 17) and an oversized varint (9) are there.
  pub there : (a.number ≡ 7 → ⊥) → (a.number ≡ 13 → ⊥) → a.detail < length bytes
