use Rattle.fields.specs.Fields.{Type-argument}
use Rattle.messages.proofs.BodiesLaws.{Goes}
use Rattle.type_references.proofs.ArgumentLaws.{Counting}
use Rattle.schema.specs.told.SchemaTold.{lent}
use Rattle.type_references.proofs.arguments.count_kept.Given as goal

abbrev pub invariant-loop-argument : goal.invariant-loop-argument
invariant-loop-argument l =
    Goes l.argument-iterator l.msg.base l.msg.bytes.now Type-argument
    × Counting (lent l.context) l.msg.bytes.now l.msg.base l.left l.argument-iterator.at l.count
