-- The answer to what was read, and every byte of both areas.
-- Assumes nothing.
use Rattle.std.specs.Prelude.{List, [], ◌++◌, ℕ, ◌-◌, min, ltb, length, drop, if◌then◌else◌}
use Rattle.std.proofs.Math.Option.{none}
use Rattle.foundation.specs.Results.{text_too_long, sheet_too_long, Res, ok, refused}
use Rattle.fields.specs.Fields.{omitted_flags}
use Rattle.sheet.specs.Rows.{Row, texts, sheet_from}
use Rattle.declaration_rows.specs.Declarations.{Declarations}
use Rattle.schema.specs.Reading.{allowance}
use Rattle.inputs.specs.Outcomes.{Answer, refusal}
use Rattle.declarations.specs.Payload.{declaration_rows}

-- what stands for the body of metadata kinds 3 and 4
abbrev pub head_alone : Declarations
head_alone = record { name = none; flags = omitted_flags; constructors = []; functions = []; properties = []; aliases = [] }

abbrev pub nothing_read : Res (Declarations × ℕ)
nothing_read = ok (head_alone, allowance)

-- no present ref is FFFFFFFF hex
abbrev pub text_limit : ℕ
text_limit = 65534

-- bytes past the lengths stay
abbrev pub accepted : List ℕ → List ℕ → List ℕ → List ℕ → ℕ → Answer
accepted sheet text s t n = record {
  number = 0;
  detail = 0;
  sheet_length = length s;
  text_length = length t;
  types = n;
  sheet = s ++ drop (length s) sheet;
  text = t ++ drop (length t) text;
}

-- 12, the last refusal
unfoldable pub sheet_written : List ℕ → List ℕ → List Row → ℕ → Answer
sheet_written sheet text rows n =
    let s = sheet_from 0 rows in
    if ltb (length sheet) (length s) then refusal sheet text sheet_too_long 0 else accepted sheet text s (texts rows) n

-- 11 and 12 are tested when all is read
unfoldable pub written : List ℕ → List ℕ → List Row → ℕ → Answer
written sheet text rows n =
    let fits = sheet_written sheet text rows n in
    if ltb (min (length text) text_limit) (length (texts rows)) then refusal sheet text text_too_long 0 else fits

abbrev pub answered : List ℕ → List ℕ → ℕ → Res (Declarations × ℕ) → Answer
answered sheet text kind (refused c p) = refusal sheet text c p
answered sheet text kind (ok r) = written sheet text (declaration_rows kind r.0) (allowance - r.1)
