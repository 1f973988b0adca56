use Prim.Native.Nat.{◌-◌}
use lib.ListN.{length}
use Rattle.record_names.proofs.EndsLaws.{Begins}
use Rattle.record_names.proofs.ends.last_of.Given as goal

abbrev pub invariant-loop-character : goal.invariant-loop-character
invariant-loop-character l = Begins l.s l.at

abbrev pub decreases-loop-character : goal.decreases-loop-character
decreases-loop-character l = length l.s - l.at
