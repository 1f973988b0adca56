use mathlib.Core.Path.{ap, ◌∙◌}
use Rattle.std.specs.declared.result.Result.TheVariants.{Ok}
use Rattle.members.proofs.SignatureLaws.{property-nothing}
use Rattle.members.proofs.signatures.property_signatures.Goals as goal

pub returns-in_default : goal.returns-in_default
returns-in_default c = λ units s o m k. property-nothing c.args.context.now.payload.now units s k c.message.ensures (c.in_ok-inner.was ∙ ap Ok c.in_default.is) c.unsigned_property.result (c.unsigned_property.ensures c.args.context.now.payload.now units s)
