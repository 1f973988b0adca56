-- What a step that writes has done to the two lent areas.
-- Assumes nothing.
use Rattle.std.specs.Prelude.{◌≡◌, List, ◌∷◌, ℕ, ◌+◌, length}
use Rattle.std.proofs.lemmas.List.Edits.{sets}
use Rattle.sheet.specs.declared.State.{State}
use Rattle.sheet.specs.declared.Output.{Output}
use Rattle.sheet.specs.Rows.{Cell, Row, body_bytes, body_text, sheet_from, texts}

-- From the state s to s' the bytes sh were appended to the sheet and tx to the text, and b types may still be entered. The sheet's
-- area held S and holds S', the text's T and T'. What goes past an area's end is counted and not written.
pub record Put (sh tx : List ℕ) (b : ℕ) (s s' : State) (S S' T T' : List ℕ) : Type 0 where
  pub state : s' ≡ record { sheet = s.sheet + length sh; text = s.text + length tx; types = b }
  pub sheet : S' ≡ sets S s.sheet sh
  pub text : T' ≡ sets T s.text tx

-- the same for some cells, a record's kind and first cells, and whole records
abbrev pub PutCells : List Cell → ℕ → State → State → List ℕ → List ℕ → List ℕ → List ℕ → Type 0
PutCells cs b s s' S S' T T' = Put (body_bytes s.text cs) (body_text cs) b s s' S S' T T'

abbrev pub PutHead : ℕ → List Cell → ℕ → State → State → List ℕ → List ℕ → List ℕ → List ℕ → Type 0
PutHead k cs b s s' S S' T T' = Put (k ∷ body_bytes s.text cs) (body_text cs) b s s' S S' T T'

abbrev pub PutRows : List Row → ℕ → State → State → List ℕ → List ℕ → List ℕ → List ℕ → Type 0
PutRows rs b s s' S S' T T' = Put (sheet_from s.text rs) (texts rs) b s s' S S' T T'

-- The same of an Output before and after. It keeps the caller's two areas and their lengths, and what stands in them changes.
abbrev pub SameAreas : Output → Output → Type 0
SameAreas o o' =
    (o'.sheet.ghost_name ≡ o.sheet.ghost_name) × (o'.text.ghost_name ≡ o.text.ghost_name)
    × (length o'.sheet.now ≡ length o.sheet.now) × (length o'.text.now ≡ length o.text.now)

abbrev pub WroteCells : List Cell → ℕ → Output → Output → Type 0
WroteCells cs b o o' = PutCells cs b o.state o'.state o.sheet.now o'.sheet.now o.text.now o'.text.now

abbrev pub WroteHead : ℕ → List Cell → ℕ → Output → Output → Type 0
WroteHead k cs b o o' = PutHead k cs b o.state o'.state o.sheet.now o'.sheet.now o.text.now o'.text.now

abbrev pub WroteRows : List Row → ℕ → Output → Output → Type 0
WroteRows rs b o o' = PutRows rs b o.state o'.state o.sheet.now o'.sheet.now o.text.now o'.text.now

-- w bytes of the sheet left out, to be written later
abbrev pub past : ℕ → State → State
past w s = record { sheet = s.sheet + w; text = s.text; types = s.types }
