-- The lengths of the records, kind byte included.
-- Assumes nothing.
use mathlib.Core.Path.{◌≡◌, refl}
use mathlib.Core.List.{[], ◌∷◌, map}
use Prim.Native.Nat.{suc}
use Rattle.sheet.specs.Rows.{record_table}
use Rattle.sheet.specs.Refs.{body_width}

-- head 20, constructor 19, function 24, property 40, parameter 6, type 10, default descriptor 5, type alias 13, count of type aliases 3
pub record_lengths : map (λ fs. suc (body_width fs)) record_table ≡ 20 ∷ 19 ∷ 24 ∷ 40 ∷ 6 ∷ 10 ∷ 5 ∷ 13 ∷ 3 ∷ []
unfolding body_width
record_lengths = refl
