-- Numbers by their digits, lowest first, for every base: varints (128), fixed widths (256), the old seven-bit form (128 to 256).
-- Assumes nothing.
use Rattle.std.specs.Prelude.{List, [], ◌∷◌, ℕ, zero, suc, ◌+◌, ◌*◌, ◌/◌, ◌%◌}

abbrev pub number : ℕ → List ℕ → ℕ
number b [] = 0
number b (d ∷ ds) = d + b * number b ds

abbrev pub digits : ℕ → ℕ → ℕ → List ℕ
digits b zero n = []
digits b (suc k) n = n % b ∷ digits b k (n / b)

-- a number in w bytes, little-endian
abbrev pub little : ℕ → ℕ → List ℕ
little = digits 256
