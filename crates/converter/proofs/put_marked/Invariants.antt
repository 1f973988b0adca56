use mathlib.Core.Path.{◌≡◌}
use Prim.Native.Nat.{suc}
use lib.ListN.{length, drop}
use lib.Seq.{sets}
use Rattle.converter.proofs.put_marked.Given as goal

abbrev pub invariant-loop-i : goal.invariant-loop-i
invariant-loop-i l = (length l.units ≡ length l.initial.units) × (sets l.initial.units 1 l.bytes ≡ sets l.units (suc l.i) (drop l.i l.bytes))
