-- The line that the program prints, document 01, "A whole line", in ASCII.
-- Assumes nothing.
use Rattle.std.specs.Prelude.{false, List, [], ◌∷◌, ◌++◌, ℕ, zero, suc, ◌/◌, ◌%◌, ltb, if◌then◌else◌}
use Rattle.std.specs.Fmt.{digit_glyph}

-- a number in decimal, of at most k digits, the highest first, without zeros in front
abbrev pub decimal_within : ℕ → ℕ → List ℕ
decimal_within zero n = []
decimal_within (suc k) n =
    let more = decimal_within k (n / 10) ++ (digit_glyph false (n % 10) ∷ []) in
    if ltb n 10 then digit_glyph false n ∷ [] else more

-- 20 digits are enough for 64 bits
unfoldable pub decimal : ℕ → List ℕ
decimal n = decimal_within 20 n

-- bytes in hex, two digits each, in lower case
unfoldable pub hex_of : List ℕ → List ℕ
hex_of [] = []
hex_of (b ∷ bs) = digit_glyph false (b / 16) ∷ digit_glyph false (b % 16) ∷ hex_of bs

abbrev pub hex_or_dash : List ℕ → List ℕ
hex_or_dash [] = 0x2d ∷ []
hex_or_dash (b ∷ bs) = hex_of (b ∷ bs)

-- a space, and bytes in hex, "-" if empty
unfoldable pub part_of : List ℕ → List ℕ
part_of bs = 0x20 ∷ hex_or_dash bs

-- number, detail, sheet, text and a line's end
unfoldable pub line_of : ℕ → ℕ → List ℕ → List ℕ → List ℕ
line_of number detail sheet text = decimal number ++ (0x20 ∷ (decimal detail ++ (part_of sheet ++ (part_of text ++ (0x0a ∷ [])))))
