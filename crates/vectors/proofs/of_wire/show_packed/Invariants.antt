-- Each turn leaves less of the message to read.
use Rattle.std.proofs.Common.{length, ◌-◌}
use Rattle.vectors.proofs.of_wire.show_packed.Given as goal

abbrev pub decreases-loop-at : goal.decreases-loop-at
decreases-loop-at g l = length l.s.bytes.now - l.at
