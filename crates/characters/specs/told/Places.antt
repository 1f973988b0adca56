-- Places in a text, and the part between two of them.
-- Assumes nothing.
use Rattle.std.specs.Prelude.{List, [], ◌∷◌, ℕ, zero, suc, ◌-◌, eqb, ltb, take, drop, if◌then◌else◌}
use Rattle.std.proofs.Math.Option.{Option, none, some}
use Rattle.foundation.specs.Choices.{map_option}
use Rattle.characters.specs.Characters.{width, step}

-- How many of the bytes stand before byte place n of their replaced text; none past its end or inside a character. The first j bytes
-- belong to the character before.
unfoldable pub place_after : ℕ → ℕ → List ℕ → Option ℕ
place_after j n [] = if eqb n 0 then some 0 else none
place_after (suc j) n (b ∷ bs) = map_option suc (place_after j n bs)
place_after zero n (b ∷ bs) =
    let c = (step b bs).character in
    let later = map_option suc (place_after (step b bs).after (n - width c) bs) in
    if eqb n 0 then some 0 else if ltb n (width c) then none else later

abbrev pub place_of : ℕ → List ℕ → Option ℕ
place_of = place_after 0

-- what stands from a place on to an end
abbrev pub part_from : ℕ → ℕ → List ℕ → List ℕ
part_from start end s = take (end - start) (drop start s)
