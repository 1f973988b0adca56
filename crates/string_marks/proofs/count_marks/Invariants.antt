use mathlib.Core.Path.{◌≡◌}
use Prim.Native.Nat.{◌≤◌}
use lib.ListN.{take}
use Rattle.string_marks.specs.UsedStrings.{set_marks}
use Rattle.string_marks.proofs.count_marks.Given as goal

abbrev pub invariant-loop-mark : goal.invariant-loop-mark
invariant-loop-mark l = (l.count ≡ set_marks (take l.mark-index l.used)) × (l.count ≤ l.mark-index)
