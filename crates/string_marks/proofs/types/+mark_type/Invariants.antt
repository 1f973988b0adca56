use Prim.Native.Nat.{◌-◌}
use lib.ListN.{length}
use Rattle.schema.specs.told.SchemaTold.{lent}
use Rattle.string_marks.specs.told.InnerTold.{steps}
use Rattle.string_marks.proofs.TypeMarks.{ArgumentsLooping}
use Rattle.string_marks.proofs.types.+mark_type.Given as goal

abbrev pub decreases-mark_type : goal.decreases-mark_type
decreases-mark_type l = steps l.outer.left (length l.context.now.payload.now) (length l.outer.msg.bytes.now)

abbrev pub invariant-loop-argument : goal.invariant-loop-argument
invariant-loop-argument l = ArgumentsLooping (lent l.context) l.outer.msg.base l.outer.msg.bytes.now l.outer.left l.outer.in_table l.initial.used l.at l.used

abbrev pub decreases-loop-argument : goal.decreases-loop-argument
decreases-loop-argument l = length l.outer.msg.bytes.now - l.at
