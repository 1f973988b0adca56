use Rattle.schema.specs.Members.{field_in}
use Rattle.schema.specs.told.SchemaTold.{lent}
use Rattle.string_marks.proofs.FieldMarks.{message-marked, no-message-marked}
use Rattle.string_marks.proofs.member_lists.mark_field.Goals as goal

pub returns-in-Some : goal.returns-in-Some
returns-in-Some c = message-marked (lent c.args.context.now) c.args.msg.base c.args.msg.bytes.now field_in c.bytes.ensures c.in-Some.is (rw (c.part.ensures.0, c.part.ensures.1) at c.mark_field_in.ensures)

pub returns-in_default : goal.returns-in_default
returns-in_default c = no-message-marked (lent c.args.context.now) c.args.msg.base c.args.msg.bytes.now field_in c.bytes.ensures c.in_default.is c.args.used.now
