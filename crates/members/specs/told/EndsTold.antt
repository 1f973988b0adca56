-- What the answer of a list tells of the Output that it leaves.
-- Assumes nothing.
use Rattle.std.specs.Prelude.{◌≡◌}
use Rattle.std.specs.declared.result.Result.TheVariants.{Ok, Err}
use Rattle.sheet.specs.declared.State.{State}
use Rattle.schema.specs.told.MembersTold.{ListWalked}

-- Where a list is written, its section says how far: up to the state left.
abbrev pub EndsAt : ListWalked → State → Type 0
EndsAt (Ok x) s = s ≡ x.state
EndsAt (Err stop) s = Unit {0}
