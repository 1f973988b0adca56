-- Texts. A text is its characters: Unicode scalar values. UTF-8 comes in when it is written.
-- Assumes nothing.
use Rattle.std.specs.Prelude.{Bool, true, false, ◌&&◌, List, [], ◌∷◌, ℕ, eqb}
use Prim.Native.String as S
use Prim.Native.String.{String}
use Prim.Native.Char.{code}

abbrev pub Text : Type 0
Text = List ℕ

-- the characters of a literal
abbrev pub ascii : String → Text
ascii S.[] = []
ascii (S.◌∷◌ c s) = code c ∷ ascii s

abbrev pub same : List ℕ → List ℕ → Bool
same [] [] = true
same [] (b ∷ t) = false
same (a ∷ s) [] = false
same (a ∷ s) (b ∷ t) = eqb a b && same s t
