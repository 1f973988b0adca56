-- How long a text of 16-bit units is in UTF-8, by its units.
-- Assumes nothing.
use Rattle.std.specs.Prelude.{◌&&◌, List, [], ◌∷◌, ℕ, ◌+◌, if◌then◌else◌}
use Rattle.characters.specs.Characters.{width, is_high, is_low}

-- What a unit adds, by the unit after it: of the four bytes of a pair its first half one, its other half three.
unfoldable pub unit_size : ℕ → ℕ → ℕ
unit_size u v = if is_high u && is_low v then 1 else width u

unfoldable pub units_size : List ℕ → ℕ
units_size [] = 0
units_size (u ∷ []) = width u
units_size (u ∷ v ∷ us) = unit_size u v + units_size (v ∷ us)
