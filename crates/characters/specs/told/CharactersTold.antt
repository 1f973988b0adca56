-- What the code's answers tell, in the definitions' words.
-- Assumes nothing.
use Rattle.std.specs.Prelude as Std
use Rattle.std.specs.Prelude.{Some, None, List, [], ◌∷◌, ◌≡◌, ℕ, zero, suc, ◌+◌, eqb, T, length, take, replicate, if◌then◌else◌}
use Rattle.std.proofs.Math.Option.{Option, none, some}
use Rattle.std.proofs.lemmas.List.Edits.{sets}
use Rattle.foundation.specs.Choices.{map_option, All}
use Rattle.characters.specs.Characters.{
  Range,
  ◌to◌,
  trail,
  leads,
  lead_of,
  run,
  sixes,
  leading,
  step,
  replacement,
  width,
  utf8_of,
  is_high,
  is_low,
  lone,
  pair,
  is_scalar,
}
use Rattle.characters.specs.declared.FirstByte.{FirstByte}
use Rattle.foundation.specs.declared.Read.{Read}
use Rattle.foundation.specs.Texts.{Text}

-- A character, and the place after it; none past the end.
abbrev pub Character : Type 0
Character = Std.Option (Read ℕ)

abbrev pub character_read : ℕ → ℕ → Character
character_read code next = Some (record { value = code; next = next })

-- What a first byte says: its own bits of the character's number, and what may follow it.
pub record LeadByte : Type 0 where
  pub bits : ℕ
  pub following : List Range

abbrev pub lead_byte : ℕ → List Range → LeadByte
lead_byte n rs = record { bits = n; following = rs }

unfoldable pub lead_byte_of : ℕ → Option LeadByte
lead_byte_of b = map_option (λ l. lead_byte (leading (length l.following) b) l.following) (lead_of b leads)

-- so many bytes, the first of them in a range of its own
abbrev pub ranges : ℕ → ℕ → ℕ → List Range
ranges zero low high = []
ranges (suc n) low high = ◌to◌ low high ∷ replicate n trail

abbrev pub first_byte_told : Std.Option FirstByte → Option LeadByte
first_byte_told (Some f) = some (lead_byte f.bits (ranges f.following f.low f.high))
first_byte_told None = none

-- The character whose bytes so far gave `bits`, and the place after it: the bytes from `at` on are bs, and the ranges say what may follow.
unfoldable pub go_on : List Range → ℕ → ℕ → List ℕ → Character
go_on rs bits at bs = let n = run rs bs in character_read (if eqb n (length rs) then sixes bits (take n bs) else replacement) (at + n)

-- The first character of the bytes from `at` on, and the place after it.
unfoldable pub utf8_at : ℕ → List ℕ → Character
utf8_at at [] = None
utf8_at at (b ∷ bs) = let s = step b bs in character_read s.character (at + 1 + s.after)

-- A high surrogate's character, and the place after it: the units from `at` on are us, and the first may be its other half.
unfoldable pub paired_at : ℕ → ℕ → List ℕ → Character
paired_at high at [] = character_read replacement at
paired_at high at (u ∷ us) = if is_low u then character_read (pair high u) (at + 1) else character_read replacement at

-- The first character of the units from `at` on, and the place after it.
unfoldable pub utf16_at : ℕ → List ℕ → Character
utf16_at at [] = None
utf16_at at (u ∷ us) = if is_high u then paired_at u (at + 1) us else character_read (lone u) (at + 1)

abbrev pub place_told : Std.Option ℕ → Option ℕ
place_told (Some source) = some source
place_told None = none

-- A character was written at a place of an area, and `size` is how many bytes it takes.
pub record PutCharacter (code at size : ℕ) (before after : List ℕ) : Type 0 where
  pub bytes : size ≡ width code
  pub written : after ≡ sets before at (utf8_of code)

abbrev pub Characters : Text → Type 0
Characters = All λ c. T (is_scalar c)
