-- What a room tells of every reading of its input: which areas are enough, and what stands in them then.
-- Assumes nothing.
use Rattle.std.specs.Prelude.{◌≡◌, Bool, false, ◌||◌, List, [], ◌∷◌, map, ℕ, suc, ◌+◌, ◌≤◌, ◌<◌, min, eqb, length, if◌then◌else◌}
use Rattle.std.proofs.Math.Option.{some}
use Rattle.foundation.specs.Results.{ok}
use Rattle.sheet.specs.Rows.{Row, body_text}
use Rattle.sheet.specs.Reading.{rows_of}
use Rattle.characters.specs.WellFormed.{Units}
use Rattle.declaration_rows.specs.Declarations.{Declarations}
use Rattle.inputs.specs.Inputs.{Input, kind_of, carries_declarations}
use Rattle.inputs.specs.Outcomes.{Answer}
use Rattle.declarations.specs.Payload.{declaration_rows}
use Rattle.passes.specs.Answered.{text_limit}
use Rattle.metadata.specs.Read.{reading, read}
use Rattle.promises.specs.Promises.{sheet_bytes, text_bytes}
use Rattle.room.specs.Room.{Room, record_counts, sum}

-- each if and only if the other
abbrev pub Exactly : Type 0 → Type 0 → Type 0
Exactly A B = (A → B) × (B → A)

-- The text area holds the text that is told, and it is not longer than any text may be.
abbrev pub TextFits : Room → List ℕ → Type 0
TextFits r text = r.text_length ≤ min (length text) text_limit

abbrev pub SheetFits : Room → List ℕ → Type 0
SheetFits r sheet = r.sheet_length ≤ length sheet

abbrev pub TextOver : Room → List ℕ → Type 0
TextOver r text = min (length text) text_limit < r.text_length

abbrev pub SheetOver : Room → List ℕ → Type 0
SheetOver r sheet = length sheet < r.sheet_length

-- A parameter, type or default descriptor is owned by the member that stands last before it. Records of other kinds are owned by none.
abbrev pub is_owned : ℕ → Bool
is_owned kind = eqb kind 5 || (eqb kind 6 || eqb kind 7)

-- the kind of the member that a record belongs to, after records of a member of kind `before`
abbrev pub owner_kind : (before kind : ℕ) → ℕ
owner_kind before kind = if is_owned kind then before else kind

-- The bytes of the texts of the members of one kind and of all they own, in the records of a sheet, after records of a member of kind `before`.
abbrev pub member_text : (member before : ℕ) → List Row → ℕ
member_text member before [] = 0
member_text member before (r ∷ rows) =
    (if eqb (owner_kind before r.kind) member then length (body_text r.body) else 0) + member_text member (owner_kind before r.kind) rows

-- of properties, functions, constructors, aliases, the head: the numbers of their kinds; before the first record there is none
abbrev pub member_texts : List Row → List ℕ
member_texts rows = map (λ member. member_text member 0 rows) (4 ∷ 3 ∷ 2 ∷ 8 ∷ 1 ∷ [])

-- Reading tells what the room told.
pub record AsTold (r : Room) (a : Answer) : Type 0 where
  pub number : a.number ≡ r.number
  pub detail : a.detail ≡ r.detail
  pub sheet_length : a.sheet_length ≡ r.sheet_length
  pub text_length : a.text_length ≡ r.text_length
  pub types : a.types ≡ r.types

pub record RoomExact (i : Input) (r : Room) : Type 0 where
  -- A refusal that is told is what reading gives, whatever the areas,
  pub refused : (r.number ≡ 0 → ⊥) → (sheet text : List ℕ) → AsTold r (read sheet text i)
  -- and a refusal that reading gives, other than 11 and 12, is told.
  pub refuses : (sheet text : List ℕ) → ((read sheet text i).number ≡ 0 → ⊥) → ((read sheet text i).number ≡ 11 → ⊥)
      → ((read sheet text i).number ≡ 12 → ⊥) → AsTold r (read sheet text i)
  -- No 11 and no 12 is told.
  pub early : (r.number ≡ 11 → ⊥) × (r.number ≡ 12 → ⊥)
  -- Reading is refused with 11 exactly if no refusal is told and the text that is told is longer than its area or 65,534,
  pub text_exact : (sheet text : List ℕ) → Exactly ((read sheet text i).number ≡ 11) ((r.number ≡ 0) × TextOver r text)
  -- else with 12 exactly if the sheet that is told is longer than its area,
  pub sheet_exact : (sheet text : List ℕ) → Exactly ((read sheet text i).number ≡ 12) ((r.number ≡ 0) × TextFits r text × SheetOver r sheet)
  -- else it is accepted, with what is told.
  pub accepted_exact : (sheet text : List ℕ) → Exactly ((read sheet text i).number ≡ 0) ((r.number ≡ 0) × TextFits r text × SheetFits r sheet)
  pub accepted : (sheet text : List ℕ) → (read sheet text i).number ≡ 0 → AsTold r (read sheet text i)
  -- So areas of just these lengths are enough for a text of at most 65,534 bytes; with a byte less of text it is 11, whatever the sheet's area;
  -- with a byte less of sheet alone 12. A sheet is never empty: it takes 23 bytes at least.
  pub enough : r.number ≡ 0 → r.text_length ≤ text_limit → (sheet text : List ℕ) → length sheet ≡ r.sheet_length → length text ≡ r.text_length
      → (read sheet text i).number ≡ 0
  pub less_text : r.number ≡ 0 → (sheet text : List ℕ) → suc (length text) ≡ r.text_length → (read sheet text i).number ≡ 11
  pub less_sheet : r.number ≡ 0 → r.text_length ≤ text_limit → (sheet text : List ℕ) → suc (length sheet) ≡ r.sheet_length → length text ≡ r.text_length
      → (read sheet text i).number ≡ 12
  pub some_sheet : r.number ≡ 0 → 23 ≤ r.sheet_length
  -- The counts are those of the records by kind, on the bytes of the sheet that reading gives.
  pub counted : Units i.d2 → (sheet text : List ℕ) → (read sheet text i).number ≡ 0
      → (records : List Row) × (rows_of (sheet_bytes (read sheet text i)) (text_bytes (read sheet text i)) ≡ some records)
      × (r.records ≡ record_counts records)
  -- The texts by lists add up to the text that is told, so that 11 is given exactly as their sum says.
  pub added : sum r.list_texts ≡ r.text_length
  pub added_exact : (sheet text : List ℕ)
      → Exactly ((read sheet text i).number ≡ 11) ((r.number ≡ 0) × (min (length text) text_limit < sum r.list_texts))
  -- Each is that of its list's records and of all they own: on the rows of what was read, also where no area holds their text,
  pub owned : (d : Declarations) (left : ℕ) → reading i ≡ ok (d, left) → r.list_texts ≡ member_texts (declaration_rows (kind_of i.k) d)
  -- and on the bytes of the sheet that reading gives.
  pub listed : Units i.d2 → (sheet text : List ℕ) → (read sheet text i).number ≡ 0
      → (records : List Row) × (rows_of (sheet_bytes (read sheet text i)) (text_bytes (read sheet text i)) ≡ some records)
      × (r.list_texts ≡ member_texts records)
  -- Metadata kinds 3 and 4, which carry no declarations, have no text in any list.
  pub bare : carries_declarations (kind_of i.k) ≡ false → r.list_texts ≡ 0 ∷ 0 ∷ 0 ∷ 0 ∷ 0 ∷ []
