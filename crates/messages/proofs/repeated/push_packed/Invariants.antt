use mathlib.Core.Path.{◌≡◌}
use Prim.Native.Nat.{◌-◌}
use lib.ListN.{length}
use Rattle.foundation.specs.told.Located.{told_part}
use Rattle.wire.specs.Wire.{packed}
use Rattle.wire.specs.told.WireTold.{rest_of}
use Rattle.messages.specs.told.Repeated.{pushed_to}
use Rattle.messages.proofs.repeated.push_packed.Given as goal

abbrev pub invariant-loop-at : goal.invariant-loop-at
invariant-loop-at l = pushed_to l.initial.have (packed (told_part l.run)) ≡ pushed_to l.have (packed (rest_of l.run.base l.run.bytes.now l.at))

abbrev pub decreases-loop-at : goal.decreases-loop-at
decreases-loop-at l = length l.run.bytes.now - l.at
