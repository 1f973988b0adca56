use mathlib.Core.Path.{◌≡◌}
use lib.ListN.{length, drop}
use lib.Seq.{sets}
use Rattle.encoding.proofs.copy_bytes.Given as goal

abbrev pub invariant-loop-i : goal.invariant-loop-i
invariant-loop-i l = (length l.area ≡ length l.initial.area) × (sets l.initial.area 0 l.units ≡ sets l.area l.i (drop l.i l.units))
