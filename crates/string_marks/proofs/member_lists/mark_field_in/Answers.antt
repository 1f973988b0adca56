use mathlib.Core.Path.{sym, ◌∙◌}
use Rattle.schema.specs.told.SchemaTold.{lent}
use Rattle.string_marks.proofs.ReadingLaws.{field-of-marks}
use Rattle.string_marks.proofs.FieldMarks.{field-marked, no-field-marked}
use Rattle.string_marks.proofs.member_lists.mark_field_in.Goals as goal

pub returns-in-Some : goal.returns-in-Some
returns-in-Some c = field-marked (lent c.args.context.now) c.args.msg.base c.args.msg.bytes.now c.message.ensures (sym c.unwrap_or-field.ensures ∙ c.in-Some.is) (rw (c.part-part.ensures.0, c.part-part.ensures.1) at (field-of-marks c.mark_name.ensures c.mark_name-in-Some.ensures))

pub returns-in_default : goal.returns-in_default
returns-in_default c = no-field-marked (lent c.args.context.now) c.args.msg.base c.args.msg.bytes.now c.message.result c.message.ensures (sym c.unwrap_or-field.ensures ∙ c.in_default.is) c.args.used.now
