use Rattle.std.proofs.Common.{rules}
use Rattle.schema.proofs.HeadLaws.{known-other}
use Rattle.schema.proofs.head.Seen.with_field.Goals as goal

pub returns-in_default : goal.returns-in_default
returns-in_default c = λ base s m rest k. known-other c.args.self c.args.value base s m rest (search rules) (search rules) (search rules) k
