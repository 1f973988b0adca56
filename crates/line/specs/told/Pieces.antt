-- The input in pieces: what a piece adds to the counts. A piece holds the input's bytes from an offset, its base, on.
-- Assumes nothing.
use Rattle.std.specs.Prelude.{List, ℕ, zero, suc, ◌+◌, ◌-◌, ◌*◌, ◌^◌, ◌<◌, ltb, get_or, if◌then◌else◌}
use Rattle.line.specs.declared.input.Counts.{Counts}
use Rattle.line.specs.Input.{d1_place, d2_place, ends_place}

-- the byte at a place of the input, 0 if the piece doesn't hold it
abbrev pub byte_in : List ℕ → ℕ → ℕ → ℕ
byte_in piece base at = if ltb at base then 0 else get_or piece (at - base) 0

-- what the piece gives of the number in w bytes from a place on
abbrev pub number_in_piece : ℕ → List ℕ → ℕ → ℕ → ℕ
number_in_piece zero piece base at = 0
number_in_piece (suc w) piece base at = byte_in piece base at + 256 * number_in_piece w piece base (at + 1)

-- A count's place is known once the counts before it are whole, and until then it lies past all that was read.
unfoldable pub counts_in : List ℕ → ℕ → Counts → Counts
counts_in piece base c =
    let d1 = c.d1 + number_in_piece 4 piece base d1_place in
    let d2 = c.d2 + number_in_piece 4 piece base (d2_place d1) in
    record { d1 = d1; d2 = d2; ends = c.ends + number_in_piece 4 piece base (ends_place d1 d2) }

-- counts of 4 bytes fit, and what is added to them
abbrev pub CountsFit : Counts → Type 0
CountsFit c = (c.d1 < 2 ^ 32) × (c.d2 < 2 ^ 32) × (c.ends < 2 ^ 32)
