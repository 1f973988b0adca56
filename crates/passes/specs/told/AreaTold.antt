-- What is measured of a reading, and what is written of it into both areas.
-- Assumes nothing.
use Rattle.std.specs.Prelude.{◌≡◌, true, List, ◌++◌, ℕ, ◌≤◌, length, drop}
use Rattle.std.proofs.Math.Option.{Option}
use Rattle.foundation.specs.Results.{Res, ok}
use Rattle.foundation.specs.Texts.{Text}
use Rattle.encoding.specs.Encoding.{unit_limit}
use Rattle.sheet.specs.Rows.{texts, sheet_from}
use Rattle.sheet.specs.declared.State.{State}
use Rattle.names.specs.Names.{strings_from, d2_string, ends_fit}
use Rattle.declaration_rows.specs.Declarations.{Declarations}
use Rattle.schema.specs.Reading.{allowance}
use Rattle.schema.specs.told.SchemaTold.{Lent}
use Rattle.declarations.specs.Payload.{payload, declaration_rows}
use Rattle.declarations.specs.told.PayloadTold.{LentAt}
use Rattle.declarations.specs.told.BodyTold.{Written}
use Rattle.declarations.specs.declared.body.Sections.{Sections}
use Rattle.passes.specs.declared.AreaPair.{AreaPair}

-- the action that looks a string of d2 up
abbrev pub strings : List ℕ → List ℕ → ℕ → Res (Option Text)
strings d2 ends = d2_string (strings_from 0 ends d2)

-- What is within the limits: neither d1's bytes nor d2 is too long, and the ends fit.
pub record InLimits (bytes d2 ends : List ℕ) : Type 0 where
  pub bytes-short : length bytes ≤ unit_limit
  pub d2-short : length d2 ≤ unit_limit
  pub fit : ends_fit 0 ends (length d2) ≡ true

-- the same of what is lent
abbrev pub Limited : Lent → Type 0
Limited e = InLimits e.payload e.d2 e.ends

-- what is read of the decoded bytes that are lent
abbrev pub lent_reading : ℕ → Lent → Res (Declarations × ℕ)
lent_reading kind e = payload kind (strings e.d2 e.ends) e.payload

abbrev pub start : State
start = record { sheet = 0; text = 0; types = allowance }

-- how far both areas are written, and the types that are left
abbrev pub last_of : Sections → State
last_of b = b.aliases.state

-- The decoded bytes are read, their rows measured, and written where two areas hold them: what is lent is theirs.
pub record MeasuredAt (kind : ℕ) (e : Lent) (at : ℕ) (b : Sections) (S T : List ℕ) : Type 0 where
  pub lent : LentAt e at
  pub declarations : Declarations
  pub left : ℕ
  pub reads : lent_reading kind e ≡ ok (declarations, left)
  pub S₀ : List ℕ
  pub T₀ : List ℕ
  pub written : Written kind declarations left start b S₀ S T₀ T

-- Both areas hold the rows of what was read, and what they held before past them.
abbrev pub WrittenOut : ℕ → Res (Declarations × ℕ) → (S S' T T' : List ℕ) → Type 0
WrittenOut kind r S S' T T' =
    (d : Declarations) (left : ℕ) → r ≡ ok (d, left)
    → (S' ≡ sheet_from 0 (declaration_rows kind d) ++ drop (length (sheet_from 0 (declaration_rows kind d))) S)
    × (T' ≡ texts (declaration_rows kind d) ++ drop (length (texts (declaration_rows kind d))) T)

-- Both areas before and after: they are the same two, each as long as before, and what stands in them changes.
abbrev pub AreasKept : AreaPair → AreaPair → Type 0
AreasKept a a' =
    (a'.sheet.ghost_name ≡ a.sheet.ghost_name) × (a'.text.ghost_name ≡ a.text.ghost_name)
    × (length a'.sheet.now ≡ length a.sheet.now) × (length a'.text.now ≡ length a.text.now)

-- What is told of what stands in both before and after.
abbrev pub OnAreas : ((S S' T T' : List ℕ) → Type 0) → AreaPair → AreaPair → Type 0
OnAreas said a a' = said a.sheet.now a'.sheet.now a.text.now a'.text.now
