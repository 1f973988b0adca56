-- How many rows are of a kind.
-- Assumes nothing.
use Rattle.std.specs.Prelude.{List, [], ◌∷◌, ℕ, ◌+◌, eqb, if◌then◌else◌}
use Rattle.sheet.specs.Rows.{Row}

-- how many of the rows are of kind k
abbrev pub count_kind : ℕ → List Row → ℕ
count_kind k [] = 0
count_kind k (r ∷ rows) = (if eqb r.kind k then 1 else 0) + count_kind k rows
