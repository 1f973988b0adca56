-- Texts of characters below 128, and what dots and slashes become in them.
-- Assumes nothing.
use Rattle.std.specs.Prelude.{Bool, true, ◌&&◌, List, [], ◌∷◌, ℕ, eqb, ltb, if◌then◌else◌}

abbrev pub instead : ℕ → ℕ → ℕ → ℕ
instead from to c = if eqb c from then to else c

abbrev pub with_dots : Bool → ℕ → ℕ
with_dots dots c = if dots then instead 0x2f 0x2e (instead 0x24 0x2e c) else c

abbrev pub slashed_character : Bool → ℕ → ℕ
slashed_character slashes c = if slashes then instead 0x2e 0x2f c else c

-- of characters below 128 alone
unfoldable pub is_ascii : List ℕ → Bool
is_ascii [] = true
is_ascii (c ∷ cs) = ltb c 0x80 && is_ascii cs

-- a character, if none is replaced
abbrev pub shown : Bool → Bool → ℕ → ℕ
shown dots slashes c = slashed_character slashes (with_dots dots c)
