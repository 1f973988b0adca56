use mathlib.Core.Path.{◌∙◌}
use Rattle.record_names.proofs.PartLaws.{scalar-is}
use Rattle.record_names.proofs.steps.is_scalar.Goals as goal

pub returns : goal.returns
returns c = c.is_some.ensures ∙ scalar-is c.from_u32.result c.args.code c.from_u32.ensures.cases
