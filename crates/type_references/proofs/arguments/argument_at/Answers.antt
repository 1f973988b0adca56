use mathlib.Core.Path.{refl}
use Rattle.messages.proofs.BodyLaws.{checked_in}
use Rattle.foundation.proofs.ErrorLaws.{handed_on}
use Rattle.type_references.proofs.ArgumentLaws.{argument-inline, argument-refused, argument-other}
use Rattle.type_references.proofs.arguments.argument_at.Goals as goal

pub returns-in_default : goal.returns-in_default
returns-in_default c = argument-other c.args.msg.base c.args.msg.bytes.now c.args.last.bytes.now c.args.part.start c.args.part.end c.requires.0 c.requires.1 (rw (c.part.ensures.0, c.part.ensures.1) at c.argument_head-head.ensures) _ refl c.in_default.not-Inline

pub returns-in_err-check : goal.returns-in_err-check
returns-in_err-check c = rw (handed_on _ c.from_residual.ensures.1) (argument-refused c.args.msg.base c.args.msg.bytes.now c.args.last.bytes.now c.args.part.start c.args.part.end c.requires.0 c.requires.1 (rw (c.part.ensures.0, c.part.ensures.1) at c.argument_head-head.ensures) c.in-Inline.is c.moved-inner.result c.moved-inner.ensures.0 c.moved-inner.ensures.1 c.check.result (checked_in c.args.msg.base c.args.last.bytes.now c.moved-inner.result (rw c.requires.2 at c.part-2.ensures) c.check.result c.check.ensures) c.in_err-check.was)

pub returns : goal.returns
returns c = argument-inline c.args.msg.base c.args.msg.bytes.now c.args.last.bytes.now c.args.part.start c.args.part.end c.requires.0 c.requires.1 (rw (c.part.ensures.0, c.part.ensures.1) at c.argument_head-head.ensures) c.in-Inline.is c.moved-inner.result c.moved-inner.ensures.0 c.moved-inner.ensures.1 c.check.result (checked_in c.args.msg.base c.args.last.bytes.now c.moved-inner.result (rw c.requires.2 at c.part-2.ensures) c.check.result c.check.ensures) c.in_ok-check.was
