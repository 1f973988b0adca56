use mathlib.Core.Path.{refl}
use Rattle.type_references.proofs.ArgumentLaws.{kept-star, kept-inline, kept-deep, kept-looked, kept-nowhere}
use Rattle.schema.specs.told.SchemaTold.{lent}
use Rattle.type_references.proofs.arguments.is_kept.Goals as goal

pub returns-in-Star : goal.returns-in-Star
returns-in-Star c = kept-star (lent c.args.context.now) c.args.msg.bytes.now c.args.msg.base c.args.left c.argument_head.ensures c.in-Star.is

pub returns-in-Inline : goal.returns-in-Inline
returns-in-Inline c = kept-inline (lent c.args.context.now) c.args.msg.bytes.now c.args.msg.base c.args.left c.argument_head.ensures c.in-Inline.is

pub returns-then-left-ne0 : goal.returns-then-left-ne0
returns-then-left-ne0 c = kept-looked (lent c.args.context.now) c.args.msg.bytes.now c.args.msg.base c.args.left c.argument_head.ensures c.in-ByIndex.is c.entry_at.ensures c.if-left-ne0.true c.is_some.ensures

pub returns-else-left-ne0 : goal.returns-else-left-ne0
returns-else-left-ne0 c = rw c.if-left-ne0.false (kept-deep (lent c.args.context.now) c.args.msg.bytes.now c.args.msg.base 0 c.argument_head.ensures c.in-ByIndex.is refl)

pub returns-in-Nothing : goal.returns-in-Nothing
returns-in-Nothing c = kept-nowhere (lent c.args.context.now) c.args.msg.bytes.now c.args.msg.base c.args.left c.argument_head.ensures c.in-Nothing.is
