use mathlib.Core.Option.{none}
use mathlib.Core.Path.{refl}
use Rattle.schema.specs.Reading.{Scope}
use Rattle.schema.specs.Members.{signature_in}
use Rattle.schema.specs.told.SchemaTold.{lent}
use Rattle.string_marks.proofs.FieldMarks.{message-marked, no-message-marked}
use Rattle.string_marks.proofs.member_lists.mark_accessor.Goals as goal

pub returns-in-Some : goal.returns-in-Some
returns-in-Some c = message-marked (lent c.args.context.now) c.args.msg.base c.args.msg.bytes.now (λ (s : Scope). signature_in s none c.args.number) c.bytes.ensures c.in-Some.is (rw (c.part.ensures.0, c.part.ensures.1) at (c.mark_signature_in.ensures none refl))

pub returns-in_default : goal.returns-in_default
returns-in_default c = no-message-marked (lent c.args.context.now) c.args.msg.base c.args.msg.bytes.now (λ (s : Scope). signature_in s none c.args.number) c.bytes.ensures c.in_default.is c.args.used.now
