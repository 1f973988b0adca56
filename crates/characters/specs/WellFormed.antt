-- Well-formed UTF-8 by Unicode's table 3-7, whatever writes it.
-- Assumes nothing.
use mathlib.Core.List.{List, [], ◌∷◌, ◌++◌, Memᴰ}
use Rattle.std.specs.Prelude.{ℕ, ◌<◌, T}
use Rattle.foundation.specs.Choices.{All}
use Rattle.characters.specs.Characters.{Range, in_range, Lead, leads}

-- UTF-16 code units: 16-bit numbers
abbrev pub Units : List ℕ → Type 0
Units = All λ u. u < 65536

-- as many bytes as ranges, each byte in its range
pub data Fits : List Range → List ℕ → Type 0 where
  complete : Fits [] []
  fits : {r : Range} {b : ℕ} {rs : List Range} {bs : List ℕ} → T (in_range r b) → Fits rs bs → Fits (r ∷ rs) (b ∷ bs)

-- one character after another, each by a row of the table
pub data WellFormed : List ℕ → Type 0 where
  empty : WellFormed []
  character : {l : Lead} {b : ℕ} {bs rest : List ℕ} → Memᴰ l leads → T (in_range l.first b) → Fits l.following bs
      → WellFormed rest → WellFormed (b ∷ (bs ++ rest))
