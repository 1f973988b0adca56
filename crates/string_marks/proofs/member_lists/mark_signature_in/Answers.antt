use Rattle.schema.specs.told.SchemaTold.{lent}
use Rattle.string_marks.proofs.FieldMarks.{signed-marked, unsigned-marked}
use Rattle.string_marks.proofs.member_lists.mark_signature_in.Goals as goal

pub returns-in-Some : goal.returns-in-Some
returns-in-Some c = signed-marked (lent c.args.context.now) c.args.msg.base c.args.msg.bytes.now c.args.number c.args.falls_back c.bytes.ensures c.in-Some.is (rw (c.part.ensures.0, c.part.ensures.1) at c.mark_signature.ensures)

pub returns-in_default : goal.returns-in_default
returns-in_default c = unsigned-marked (lent c.args.context.now) c.args.msg.base c.args.msg.bytes.now c.args.number c.args.falls_back c.bytes.ensures c.in_default.is c.args.used.now
