use Rattle.messages.proofs.BodyLaws.{Cutting}
use Rattle.messages.proofs.BodiesLaws.{Goes}
use Rattle.messages.proofs.check_messages.Given as goal

abbrev pub invariant-loop-body : goal.invariant-loop-body
invariant-loop-body l = Goes l.body-iterator l.s.base l.s.bytes.now l.number × Cutting l.number l.s.base l.s.bytes.now l.body-iterator.at
