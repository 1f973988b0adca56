use mathlib.Core.Path.{sym, ◌∙◌}
use Rattle.members.proofs.SignatureLaws.{inner-there, field-inline, field-absent}
use Rattle.members.proofs.signatures.field_in.Goals as goal

pub returns-in_default : goal.returns-in_default
returns-in_default c = λ units s o m k l. field-absent c.args.context.now.payload.now units s k c.message.result c.message.ensures (sym c.unwrap_or-field.ensures ∙ c.in_default.is) l c.unsigned.result c.unsigned.ensures.0

pub returns : goal.returns
returns c = λ units s o m k l. field-inline c.args.context.now.payload.now units s k c.message.ensures l (inner-there c.message.result (sym c.unwrap_or-field.ensures ∙ c.in-Some.is)) (rw (c.part.ensures.0, c.part.ensures.1) at (c.names_in.ensures units s o))
