-- What the program prints for the bytes that it reads.
-- Assumes nothing.
use Rattle.std.specs.Prelude.{List, ℕ, ◌≤◌, take, replicate, Option}
use Rattle.std.specs.Io.KnownBytes.{Consumes}
use Rattle.foundation.specs.Choices.{if_some}
use Rattle.foundation.specs.Texts.{ascii}
use Rattle.inputs.specs.Outcomes.{Answer}
use Rattle.metadata.specs.Read.{read}
use Rattle.line.specs.Input.{whole_input}
use Rattle.line.specs.Line.{line_of}
use Rattle.line.specs.Wrote.{Wrote}

abbrev pub answer_line : Answer → List ℕ
answer_line a = line_of a.number a.detail (take a.sheet_length a.sheet) (take a.text_length a.text)

-- too short an input, or the answer of the reader over two areas
unfoldable pub printed : List ℕ → List ℕ → List ℕ → List ℕ
printed sheet text bs = if_some (whole_input bs) (ascii "input\n") λ i. answer_line (read sheet text i)

-- areas of 65,536 bytes
unfoldable pub zeros : List ℕ
zeros = replicate 65536 0

-- the line of some bytes was written, and has room in an area for the longest line
pub record WroteLine (r : ℕ) (S S' : List ℕ) : Type 0 where
  pub bytes : List ℕ
  pub line : Wrote (printed zeros zeros bytes) 0 r S S'
  pub short : r ≤ 262190

-- These bytes are those that a reader gave, where it is known what it had left: it has the others left afterwards.
pub record WroteGiven (known left : Option (List ℕ)) (r : ℕ) (S S' : List ℕ) : Type 0 where
  pub wrote : WroteLine r S S'
  pub given : Consumes known left wrote.bytes
