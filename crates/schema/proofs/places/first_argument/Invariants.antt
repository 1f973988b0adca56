use Rattle.messages.proofs.BodiesLaws.{Goes}
use Rattle.fields.specs.Fields.{Type-argument}
use Rattle.schema.proofs.FoundLaws.{Seeking}
use Rattle.schema.proofs.places.first_argument.Given as goal

abbrev pub invariant-loop-argument : goal.invariant-loop-argument
invariant-loop-argument l = Goes l.argument-iterator l.msg.base l.msg.bytes.now Type-argument × Seeking l.context.payload.now l.context.notes.now l.context.tables l.msg.bytes.now l.msg.base l.left l.argument-iterator.at
