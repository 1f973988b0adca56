use mathlib.Core.Path.{◌≡◌}
use Prim.Native.Nat.{◌-◌}
use lib.ListN.{length}
use Rattle.wire.specs.told.WireTold.{SkipTold}
use Rattle.wire.proofs.FieldsIterator.next.Given as goal

abbrev pub invariant-loop-read : goal.invariant-loop-read
invariant-loop-read g l = record {
  still : l.self ≡ l.initial.self;
  skips : SkipTold l.s.bytes.now l.numbers l.initial.self.at l.at;
}

abbrev pub decreases-loop-read : goal.decreases-loop-read
decreases-loop-read g l = length l.s.bytes.now - l.at
