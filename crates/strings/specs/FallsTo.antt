-- Which strings of d2 the reading of an input falls to: those that it looks up.
-- Assumes nothing.
use Rattle.std.specs.Prelude.{◌≡◌, ◌&&◌, List, ℕ, eqb, ltb, length, if◌then◌else◌}
use Rattle.std.proofs.Math.Option.{Option}
use Rattle.foundation.specs.Results.{Cause, Res, refused}
use Rattle.foundation.specs.Texts.{Text}
use Rattle.names.specs.Names.{d2_string}
use Rattle.inputs.specs.Inputs.{Input}
use Rattle.metadata.specs.Read.{strings_of, reading_with, reading}

-- d2's strings looked up, but string n, if there is one, is refused with a cause and a place whenever it is looked up. The string of an index that a
-- record decides is not looked up (`string` in the crate `names`).
unfoldable pub stopped_at : ℕ → Cause → ℕ → List (List ℕ) → ℕ → Res (Option Text)
stopped_at n c p strings i = if eqb i n && ltb i (length strings) then refused c p else d2_string strings i

-- The reading falls to string n: it looks that string up before it ends or is refused. This is said so: where that look-up alone is refused, with
-- whatever cause and place, the reading is refused with them. What counts is which strings are looked up. Whether the answer depends on them does
-- not count, nor which indices stand in d1.
unfoldable pub FallsTo : Input → ℕ → Type 0
FallsTo i n = (c : Cause) (p : ℕ) → reading_with (stopped_at n c p (strings_of i)) i ≡ refused c p

-- The reading passes string n by: it is the same where that look-up is refused. Of each string exactly one of the two holds (`falls_or_passes`).
unfoldable pub PassesBy : Input → ℕ → Type 0
PassesBy i n = (c : Cause) (p : ℕ) → reading_with (stopped_at n c p (strings_of i)) i ≡ reading i
