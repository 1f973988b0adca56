use mathlib.Core.Path.{sym, ◌∙◌}
use lib.Dec.{eqb}
use Rattle.inputs.specs.told.KindTold.{kind_number}
use Rattle.schema.specs.told.SchemaTold.{lent}
use Rattle.declarations.proofs.BodyLaws.{constructors-none, constructors-class}
use Rattle.declarations.proofs.body.constructors_in.Goals as goal

pub returns-then-not-is_class-clause-written : goal.returns-then-not-is_class-clause-written
returns-then-not-is_class-clause-written c = constructors-none (lent c.args.context.now) c.args.msg.bytes.now c.args.msg.base (eqb (kind_number c.args.kind) 1) c.args.out.now.state c.args.out.now.sheet.now c.args.out.now.text.now (sym c.is_class.ensures ∙ c.if-not-is_class.true)

pub returns-clause-written : goal.returns-clause-written
returns-clause-written c = constructors-class (lent c.args.context.now) c.args.msg.bytes.now c.args.msg.base (eqb (kind_number c.args.kind) 1) c.args.out.now.state c.args.out.now.sheet.now c.args.out.now.text.now c.members_in.result (sym c.is_class.ensures ∙ c.if-not-is_class.false) c.members_in.ensures.written
