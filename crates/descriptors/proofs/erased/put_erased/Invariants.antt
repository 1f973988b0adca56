use mathlib.Core.Path.{◌≡◌}
use Prim.Native.Nat.{◌≤◌}
use lib.ListN.{length}
use Rattle.schema.specs.told.SchemaTold.{lent}
use Rattle.schema.specs.told.PlacesTold.{reach}
use Rattle.descriptors.proofs.ErasedWalk.{Walking}
use Rattle.descriptors.proofs.erased.put_erased.Given as goal

abbrev pub invariant-loop-one : goal.invariant-loop-one
invariant-loop-one l =
    Walking (lent l.context) l.fn.part.start l.fn.part.end l.initial.how.reached.nullable l.initial.how.reached.left l.initial.how.in_table l.initial.how.position l.at l.initial.area l.here.start l.here.end l.how.reached.nullable l.how.reached.left l.how.in_table l.how.position l.next l.area
    × (l.here.start ≤ l.here.end)
    × (l.here.end ≤ length l.context.payload.now)
    × (length l.area ≡ length l.initial.area)

abbrev pub decreases-loop-one : goal.decreases-loop-one
decreases-loop-one l = reach l.how.reached.left l.here.start l.here.end
