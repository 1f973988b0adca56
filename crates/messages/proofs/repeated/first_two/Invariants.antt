use mathlib.Core.List.{[], ◌∷◌}
use Rattle.wire.proofs.FieldsLaws.{Walks}
use Rattle.messages.proofs.RepeatedLaws.{Pushing}
use Rattle.messages.proofs.repeated.first_two.Given as goal

abbrev pub invariant-loop-read : goal.invariant-loop-read
invariant-loop-read l = Walks l.read-iterator l.s.base l.s.bytes.now (l.number ∷ []) × Pushing l.number l.s.base l.s.bytes.now l.read-iterator.at l.two
