use Rattle.schema.specs.told.SchemaTold.{lent}
use Rattle.string_marks.proofs.NameMarks.{named-marked, nameless-marked}
use Rattle.string_marks.proofs.look_ups.mark_name.Goals as goal

pub returns-in-Some : goal.returns-in-Some
returns-in-Some c = named-marked (lent c.args.context.now) c.args.msg.base c.args.msg.bytes.now c.args.number c.args.used.now c.index.result c.index.ensures c.in-Some.is c.mark_string.ensures

pub returns-in_default : goal.returns-in_default
returns-in_default c = nameless-marked (lent c.args.context.now) c.args.msg.base c.args.msg.bytes.now c.args.number c.args.used.now c.index.result c.index.ensures c.in_default.is
