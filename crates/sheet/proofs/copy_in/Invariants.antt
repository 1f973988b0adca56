use mathlib.Core.Path.{◌≡◌}
use Prim.Native.Nat.{◌+◌}
use lib.ListN.{length, drop}
use lib.Seq.{sets}
use Rattle.sheet.proofs.copy_in.Given as goal

abbrev pub invariant-loop-i : goal.invariant-loop-i
invariant-loop-i l = (length l.area ≡ length l.initial.area) × (sets l.initial.area l.at l.src ≡ sets l.area (l.at + l.i) (drop l.i l.src))
