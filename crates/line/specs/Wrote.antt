-- A text written into an area from a place on.
-- Assumes nothing.
use Rattle.std.specs.Prelude.{◌≡◌, List, ℕ, ◌+◌, length}
use Rattle.std.proofs.lemmas.List.Edits.{sets}

-- r is the place after it; S was in the area before, S' is there afterwards
pub record Wrote (text : List ℕ) (at r : ℕ) (S S' : List ℕ) : Type 0 where
  pub ends : r ≡ at + length text
  pub area : S' ≡ sets S at text
