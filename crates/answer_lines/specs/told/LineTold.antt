-- What the reader is handed of an input of which the beginning is kept, and the line that is then written.
-- Assumes nothing.
use Rattle.std.specs.Prelude.{List, [], ◌∷◌, ℕ, ◌+◌, min, ℤ, take, ◌≡◌}
use Rattle.inputs.specs.Inputs.{Input}
use Rattle.metadata.specs.Read.{read}
use Rattle.line.specs.declared.input.Counts.{Counts}
use Rattle.line.specs.Input.{number_at, numbers_at, signed_of, d1_place, d2_place, ends_place}
use Rattle.line.specs.Wrote.{Wrote}
use Rattle.line.specs.declared.stream.Taken.{Taken}
use Rattle.line.specs.told.Taken.{SoFar, kept_limit}
use Rattle.answer_lines.specs.Program.{answer_line, printed, zeros}

abbrev pub version_at : List ℕ → List ℤ
version_at bs = signed_of (number_at 4 bs 4) ∷ signed_of (number_at 4 bs 8) ∷ signed_of (number_at 4 bs 12) ∷ []

abbrev pub input_with : List ℕ → List ℕ → List ℕ → List ℕ → Input
input_with kept d1 d2 ends = record { k = signed_of (number_at 4 kept 0); mv = version_at kept; d1 = d1; d2 = d2; ends = ends }

-- what the reader is handed: from what is kept, no more than a unit and a string above its limits
abbrev pub kept_input : List ℕ → Counts → Input
kept_input kept c =
    input_with kept (numbers_at 2 kept (d1_place + 4) (min c.d1 32769)) (numbers_at 2 kept (d2_place c.d1 + 4) (min c.d2 32769))
    (numbers_at 4 kept (ends_place c.d1 c.d2 + 4) (min c.ends 4097))

-- the line of the reader's answer was written
abbrev pub WroteRead : List ℕ → List ℕ → List ℕ → List ℕ → ℕ → List ℕ → List ℕ → Type 0
WroteRead kept d1 d2 ends = Wrote (answer_line (read zeros zeros (input_with kept d1 d2 ends))) 0

abbrev pub WroteKept : List ℕ → Counts → ℕ → List ℕ → List ℕ → Type 0
WroteKept kept c = Wrote (answer_line (read zeros zeros (kept_input kept c))) 0

-- whatever bytes were taken, their line was written
abbrev pub WrotePrinted : List ℕ → Taken → ℕ → List ℕ → List ℕ → Type 0
WrotePrinted kept t r S S' = (bs : List ℕ) → SoFar bs t → kept ≡ take kept_limit bs → Wrote (printed zeros zeros bs) 0 r S S'
