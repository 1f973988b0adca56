use mathlib.Core.Path.{sym, ◌∙◌}
use Rattle.schema.specs.told.SchemaTold.{lent}
use Rattle.inputs.specs.told.KindTold.{kind_number}
use Rattle.declarations.proofs.BodyLaws.{head-package, head-class}
use Rattle.declarations.proofs.body.head_in.Goals as goal

pub returns-then-not-is_class-clause-written : goal.returns-then-not-is_class-clause-written
returns-then-not-is_class-clause-written c = head-package (kind_number c.args.kind) (lent c.args.context.now) c.args.msg.bytes.now c.args.msg.base c.requires (sym c.is_class.ensures ∙ c.if-not-is_class.true) (rw c.number.ensures at c.put_head.ensures.written)

pub returns-clause-written : goal.returns-clause-written
returns-clause-written c = head-class (kind_number c.args.kind) (lent c.args.context.now) c.args.msg.bytes.now c.args.msg.base c.requires c.class_name_in-name.result c.flags_in-flags.result (sym c.is_class.ensures ∙ c.if-not-is_class.false) c.flags_in-flags.ensures c.class_name_in-name.ensures (rw c.number-2.ensures at c.put_head-2.ensures.written)
