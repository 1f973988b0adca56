use Rattle.schema.specs.told.SchemaTold.{lent}
use Rattle.string_marks.proofs.TypeMarks.{argument-unread, argument-inline, argument-indexed, argument-at}
use Rattle.string_marks.proofs.types.type_of_argument.Goals as goal

pub returns-in-Inline : goal.returns-in-Inline
returns-in-Inline c = argument-at (lent c.args.context.now) c.args.left c.args.in_table c.part-argument.ensures (argument-inline (lent c.args.context.now) c.part-argument.result.base c.part-argument.result.bytes.now c.args.left c.args.in_table c.argument_head.ensures c.in-Inline.is c.inner_at.result c.inner_at.ensures)

pub returns-in-ByIndex : goal.returns-in-ByIndex
returns-in-ByIndex c = argument-at (lent c.args.context.now) c.args.left c.args.in_table c.part-argument.ensures (argument-indexed (lent c.args.context.now) c.part-argument.result.base c.part-argument.result.bytes.now c.args.left c.args.in_table c.argument_head.ensures c.in-ByIndex.is c.type_of_entry.result c.type_of_entry.ensures)

pub returns-in-Star : goal.returns-in-Star
returns-in-Star c = argument-at (lent c.args.context.now) c.args.left c.args.in_table c.part-argument.ensures (argument-unread (lent c.args.context.now) c.part-argument.result.base c.part-argument.result.bytes.now c.args.left c.args.in_table c.argument_head.ensures c.in-Star.is)
