use Rattle.std.proofs.Common.{◌-◌}
use Rattle.line.specs.told.Taken.{WentGiven}
use Rattle.line.proofs.stream.pass_rest.Given as goal

abbrev pub invariant-loop-taken : goal.invariant-loop-taken
invariant-loop-taken g l = WentGiven (g.R.Read.remaining l.initial.reader) (g.R.Read.remaining l.reader) l.initial.taken l.taken

abbrev pub decreases-loop-taken : goal.decreases-loop-taken
decreases-loop-taken g l = l.limit - l.taken.total
