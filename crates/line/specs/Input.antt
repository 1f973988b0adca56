-- The program's input, document 01, "A whole line": k and mv, four signed numbers of 4 bytes; d1, a 4-byte count and 2-byte units; d2 likewise;
-- a 4-byte count of 4-byte string ends. Numbers are little-endian; counts and ends are unsigned.
-- Assumes nothing.
use Rattle.std.specs.Prelude.{Bool, List, [], ◌∷◌, ℕ, zero, suc, ◌+◌, ◌-◌, ◌*◌, leb, ltb, ℤ, pos, negsuc, length, get_or, if◌then◌else◌}
use Rattle.std.proofs.Math.Option.{Option, none, some}
use Rattle.inputs.specs.Inputs.{Input}
use Rattle.line.specs.declared.input.Counts.{Counts}

-- the number in w bytes from a place on; where no byte stands, it is 0
abbrev pub number_at : ℕ → List ℕ → ℕ → ℕ
number_at zero bs at = 0
number_at (suc w) bs at = get_or bs at 0 + 256 * number_at w bs (at + 1)

-- n numbers of w bytes, one after the other
abbrev pub numbers_at : ℕ → List ℕ → ℕ → ℕ → List ℕ
numbers_at w bs at zero = []
numbers_at w bs at (suc n) = number_at w bs at ∷ numbers_at w bs (at + w) n

-- a number of 4 bytes with its sign, in two's complement
abbrev pub signed_of : ℕ → ℤ
signed_of n = if ltb n 2147483648 then pos n else negsuc (4294967295 - n)

-- Where the counts of d1, of d2 and of the ends stand; what they count begins 4 bytes later. Then the place after the input.
abbrev pub d1_place : ℕ
d1_place = 16

abbrev pub d2_place : ℕ → ℕ
d2_place d1 = 20 + 2 * d1

abbrev pub ends_place : ℕ → ℕ → ℕ
ends_place d1 d2 = 24 + 2 * d1 + 2 * d2

abbrev pub input_end : Counts → ℕ
input_end c = 28 + 2 * c.d1 + 2 * c.d2 + 4 * c.ends

unfoldable pub d1_count : List ℕ → ℕ
d1_count bs = number_at 4 bs d1_place

unfoldable pub d2_count : List ℕ → ℕ
d2_count bs = number_at 4 bs (d2_place (d1_count bs))

unfoldable pub ends_count : List ℕ → ℕ
ends_count bs = number_at 4 bs (ends_place (d1_count bs) (d2_count bs))

abbrev pub counts_of : List ℕ → Counts
counts_of bs = record { d1 = d1_count bs; d2 = d2_count bs; ends = ends_count bs }

-- all that is announced is there
abbrev pub whole : List ℕ → Bool
whole bs = leb (input_end (counts_of bs)) (length bs)

abbrev pub input_of : List ℕ → Input
input_of bs = record {
  k = signed_of (number_at 4 bs 0);
  mv = signed_of (number_at 4 bs 4) ∷ signed_of (number_at 4 bs 8) ∷ signed_of (number_at 4 bs 12) ∷ [];
  d1 = numbers_at 2 bs (d1_place + 4) (d1_count bs);
  d2 = numbers_at 2 bs (d2_place (d1_count bs) + 4) (d2_count bs);
  ends = numbers_at 4 bs (ends_place (d1_count bs) (d2_count bs) + 4) (ends_count bs);
}

-- what the bytes give; nothing if they are too short. Bytes after the input are ignored.
unfoldable pub whole_input : List ℕ → Option Input
whole_input bs = if whole bs then some (input_of bs) else none
