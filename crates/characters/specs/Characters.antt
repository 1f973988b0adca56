-- Characters: UTF-8 and UTF-16, read with replacement, and UTF-8 written (Unicode 3.9, tables 3-5 to 3-7).
-- Assumes nothing.
use Rattle.std.specs.Prelude.{Bool, ◌&&◌, ◌||◌, List, [], ◌∷◌, ◌++◌, ℕ, zero, suc, ◌+◌, ◌-◌, ◌*◌, ◌/◌, ◌%◌, ◌^◌, eqb, leb, ltb, length, take, if◌then◌else◌}
use Rattle.std.proofs.Math.Option.{Option, none, some}
use Rattle.foundation.specs.Choices.{if_some}
use Rattle.foundation.specs.Texts.{Text}

-- U+FFFD
abbrev pub replacement : ℕ
replacement = 0xfffd

abbrev pub between : ℕ → ℕ → ℕ → Bool
between low high n = leb low n && leb n high

-- A character is a Unicode scalar value: no surrogate, at most 10FFFF hex.
unfoldable pub is_scalar : ℕ → Bool
is_scalar c = ltb c 0xd800 || between 0xe000 0x10ffff c

-- how many bytes UTF-8 gives a character
unfoldable pub width : ℕ → ℕ
width c = if ltb c 0x80 then 1 else if ltb c 0x800 then 2 else if ltb c 0x10000 then 3 else 4

abbrev pub continuation : ℕ → ℕ
continuation n = 0x80 + n % 64

-- Table 3-6; the first of four bytes has three of the bits.
unfoldable pub utf8_of : ℕ → List ℕ
utf8_of c =
    let four = (0xf0 + c / 64 / 64 / 64 % 8) ∷ continuation (c / 64 / 64) ∷ continuation (c / 64) ∷ continuation c ∷ [] in
    let three = (0xe0 + c / 64 / 64) ∷ continuation (c / 64) ∷ continuation c ∷ [] in
    let two = (0xc0 + c / 64) ∷ continuation c ∷ [] in
    if ltb c 0x80 then c ∷ [] else if ltb c 0x800 then two else if ltb c 0x10000 then three else four

unfoldable pub utf8 : Text → List ℕ
utf8 [] = []
utf8 (c ∷ cs) = utf8_of c ++ utf8 cs

-- A range of bytes.
pub record Range : Type 0 where
  pub low : ℕ
  pub high : ℕ

abbrev pub ◌to◌ : ℕ → ℕ → Range
◌to◌ l h = record { low = l; high = h }

abbrev pub in_range : Range → ℕ → Bool
in_range r = between r.low r.high

-- any continuation byte
abbrev pub trail : Range
trail = ◌to◌ 0x80 0xbf

-- A row of table 3-7: the first bytes, and what may follow each of them.
pub record Lead : Type 0 where
  pub first : Range
  pub following : List Range

abbrev pub ◌then◌ : Range → List Range → Lead
◌then◌ r rs = record { first = r; following = rs }

abbrev pub leads : List Lead
leads =
    ◌then◌ (◌to◌ 0x00 0x7f) []
    ∷ ◌then◌ (◌to◌ 0xc2 0xdf) (trail ∷ [])
    ∷ ◌then◌ (◌to◌ 0xe0 0xe0) (◌to◌ 0xa0 0xbf ∷ trail ∷ [])
    ∷ ◌then◌ (◌to◌ 0xe1 0xec) (trail ∷ trail ∷ [])
    ∷ ◌then◌ (◌to◌ 0xed 0xed) (◌to◌ 0x80 0x9f ∷ trail ∷ [])
    ∷ ◌then◌ (◌to◌ 0xee 0xef) (trail ∷ trail ∷ [])
    ∷ ◌then◌ (◌to◌ 0xf0 0xf0) (◌to◌ 0x90 0xbf ∷ trail ∷ trail ∷ [])
    ∷ ◌then◌ (◌to◌ 0xf1 0xf3) (trail ∷ trail ∷ trail ∷ [])
    ∷ ◌then◌ (◌to◌ 0xf4 0xf4) (◌to◌ 0x80 0x8f ∷ trail ∷ trail ∷ [])
    ∷ []

unfoldable pub lead_of : ℕ → List Lead → Option Lead
lead_of b [] = none
lead_of b (l ∷ ls) = let later = lead_of b ls in if in_range l.first b then some l else later

-- how many of the bytes go on with a character, in their order
unfoldable pub run : List Range → List ℕ → ℕ
run [] bs = 0
run (r ∷ rs) [] = 0
run (r ∷ rs) (b ∷ bs) = let more = suc (run rs bs) in if in_range r b then more else 0

-- the number that continuation bytes add to, 6 bits each
abbrev pub sixes : ℕ → List ℕ → ℕ
sixes n [] = n
sixes n (b ∷ bs) = sixes (n * 64 + b % 64) bs

-- What stands first in some bytes: a character, and how many bytes after the first belong to it.
pub record Step : Type 0 where
  pub character : ℕ
  pub after : ℕ

-- of a first byte its 7 bits if it stands alone, else 6 less one for each byte that follows it
abbrev pub leading : ℕ → ℕ → ℕ
leading wanted b = if eqb wanted 0 then b else b % 2 ^ (6 - wanted)

-- A well-formed character, or U+FFFD for the longest beginning of one.
abbrev pub step_by : Lead → ℕ → List ℕ → Step
step_by l b bs =
    let n = run l.following bs in
    let wanted = length l.following in
    record { character = if eqb n wanted then sixes (leading wanted b) (take n bs) else replacement; after = n }

unfoldable pub step : ℕ → List ℕ → Step
step b bs = if_some (lead_of b leads) (record { character = replacement; after = 0 }) λ l. step_by l b bs

-- the characters from the byte on that comes after j more
unfoldable pub from_utf8_after : ℕ → List ℕ → Text
from_utf8_after j [] = []
from_utf8_after (suc j) (b ∷ bs) = from_utf8_after j bs
from_utf8_after zero (b ∷ bs) = (step b bs).character ∷ from_utf8_after (step b bs).after bs

-- In bad UTF-8 each longest beginning of a well-formed character, else one byte, becomes one U+FFFD.
abbrev pub from_utf8 : List ℕ → Text
from_utf8 = from_utf8_after 0

abbrev pub is_high : ℕ → Bool
is_high = between 0xd800 0xdbff

abbrev pub is_low : ℕ → Bool
is_low = between 0xdc00 0xdfff

-- a unit by itself: a lone surrogate becomes U+FFFD
abbrev pub lone : ℕ → ℕ
lone u = if is_high u || is_low u then replacement else u

abbrev pub pair : ℕ → ℕ → ℕ
pair h l = 0x10000 + (h - 0xd800) * 0x400 + (l - 0xdc00)

-- table 3-5
unfoldable pub from_utf16 : List ℕ → Text
from_utf16 [] = []
from_utf16 (u ∷ []) = lone u ∷ []
from_utf16 (u ∷ v ∷ us) =
    let joined = pair u v ∷ from_utf16 us in
    let alone = lone u ∷ from_utf16 (v ∷ us) in
    if is_high u && is_low v then joined else alone
