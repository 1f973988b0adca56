use mathlib.Core.Path.{◌≡◌}
use Prim.Native.Nat.{◌-◌}
use lib.ListN.{length}
use Rattle.characters.specs.told.Places.{place_of}
use Rattle.characters.proofs.SplitLaws.{place_from}
use Rattle.characters.proofs.find_place.Given as goal

abbrev pub invariant-loop-left : goal.invariant-loop-left
invariant-loop-left l = place_from l.s l.at l.left ≡ place_of l.place l.s

abbrev pub decreases-loop-left : goal.decreases-loop-left
decreases-loop-left l = length l.s - l.at
