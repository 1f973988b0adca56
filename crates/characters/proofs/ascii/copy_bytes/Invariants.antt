use mathlib.Core.List.{map}
use Prim.Native.Nat.{◌+◌}
use lib.ListN.{drop}
use lib.Seq.{sets}
use Rattle.characters.specs.told.Plain.{shown}
use Rattle.characters.proofs.AsciiLaws.{Copying}
use Rattle.characters.proofs.ascii.copy_bytes.Given as goal

abbrev pub invariant-loop-i : goal.invariant-loop-i
invariant-loop-i l = Copying (shown l.dots l.slashes) (drop l.i l.s) (l.at + l.i) l.initial.area l.area (sets l.initial.area l.at (map (shown l.dots l.slashes) l.s))
