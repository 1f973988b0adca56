use mathlib.Core.Path.{ap, ◌∙◌}
use Rattle.std.specs.declared.result.Result.TheVariants.{Ok}
use Rattle.foundation.proofs.ErrorLaws.{handed_on}
use Rattle.members.proofs.SignatureLaws.{signed-inline, signed-nothing, signed-refused}
use Rattle.members.proofs.signatures.signature_in.Goals as goal

pub returns : goal.returns
returns c = λ units s o m k. signed-inline c.args.context.now.payload.now units s k c.message.ensures (c.in_ok-inner.was ∙ ap Ok c.in-Some.is) (rw (c.part.ensures.0, c.part.ensures.1) at (c.names_in.ensures units s o))

pub returns-in_default : goal.returns-in_default
returns-in_default c = λ units s o m k. signed-nothing c.args.context.now.payload.now units s k c.message.ensures (c.in_ok-inner.was ∙ ap Ok c.in_default.is) c.unsigned.result c.unsigned.ensures.1

pub returns-in_err-inner : goal.returns-in_err-inner
returns-in_err-inner c = rw (handed_on _ c.from_residual.ensures.1) (λ units s o m k. signed-refused c.args.context.now.payload.now units s k c.message.ensures c.in_err-inner.was)
