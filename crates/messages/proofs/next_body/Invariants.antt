use mathlib.Core.List.{[], ◌∷◌}
use Prim.Native.Nat.{◌≤◌}
use Rattle.wire.proofs.FieldsLaws.{Walks}
use Rattle.messages.proofs.BodyLaws.{BodiesLeft}
use Rattle.messages.proofs.next_body.Given as goal

abbrev pub invariant-loop-read : goal.invariant-loop-read
invariant-loop-read l =
    Walks l.read-iterator l.s.base l.s.bytes.now (l.number ∷ []) × (l.at ≤ l.read-iterator.at) × BodiesLeft l.number l.s.base l.s.bytes.now l.at l.read-iterator.at
