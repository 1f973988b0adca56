use mathlib.Core.Path.{◌≡◌}
use Prim.Native.Nat.{◌+◌, ◌-◌}
use lib.ListN.{length}
use lib.Seq.{sets}
use Rattle.foundation.specs.Digits.{little}
use Rattle.sheet.proofs.put_number.Given as goal

abbrev pub invariant-loop-i : goal.invariant-loop-i
invariant-loop-i l = (length l.area ≡ length l.initial.area) × (sets l.initial.area l.at (little l.width l.n) ≡ sets l.area l.i (little (l.at + l.width - l.i) l.rest))
