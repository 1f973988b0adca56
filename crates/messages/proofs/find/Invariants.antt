use mathlib.Core.List.{[], ◌∷◌}
use Rattle.wire.proofs.FieldsLaws.{Walks}
use Rattle.messages.proofs.FindLaws.{Occur}
use Rattle.messages.proofs.find.Given as goal

abbrev pub invariant-loop-read : goal.invariant-loop-read
invariant-loop-read l = Walks l.read-iterator l.s.base l.s.bytes.now (l.number ∷ []) × Occur l.number l.s.base l.s.bytes.now 0 l.read-iterator.at
