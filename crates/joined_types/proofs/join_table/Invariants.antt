use Prim.Native.Nat.{◌-◌}
use lib.ListN.{length}
use Rattle.joined_types.specs.told.Fates.{joined_levels}
use Rattle.joined_types.proofs.JoiningLaws.{Joining}
use Rattle.joined_types.proofs.TableLaws.{TableBy}
use Rattle.joined_types.proofs.join_table.Given as goal

abbrev pub invariant-loop-read : goal.invariant-loop-read
invariant-loop-read l = Joining (TableBy l.types joined_levels) (TableBy l.types joined_levels) l.initial.s l.s l.at l.at

abbrev pub decreases-loop-read : goal.decreases-loop-read
decreases-loop-read l = length l.initial.s - l.at
