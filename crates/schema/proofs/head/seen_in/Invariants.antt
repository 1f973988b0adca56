use Prim.Native.Nat.{◌-◌}
use lib.ListN.{length}
use Rattle.schema.proofs.HeadLaws.{Seeing}
use Rattle.schema.proofs.head.seen_in.Given as goal

abbrev pub invariant-loop-at : goal.invariant-loop-at
invariant-loop-at l = Seeing l.msg.base l.msg.bytes.now l.at l.seen

abbrev pub decreases-loop-at : goal.decreases-loop-at
decreases-loop-at l = length l.msg.bytes.now - l.at
