use mathlib.Core.Path.{ap, sym, ◌∙◌}
use Rattle.schema.specs.told.HeadTold.{is_body}
use Rattle.schema.proofs.HeadLaws.{known-no-body, known-argument}
use Rattle.schema.proofs.head.Seen.with_argument.Goals as goal

pub returns-in_default : goal.returns-in_default
returns-in_default c = λ base s m rest k. known-no-body c.args.self c.args.value base s m rest k (ap is_body (sym c.bytes.ensures ∙ c.in_default.is))

pub returns : goal.returns
returns c = λ base s m rest k. known-argument c.args.self c.args.value base s m rest k (ap is_body (sym c.bytes.ensures ∙ c.in-Some.is))
