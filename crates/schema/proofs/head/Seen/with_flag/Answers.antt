use Rattle.schema.proofs.HeadLaws.{known-flag}
use Rattle.schema.proofs.head.Seen.with_flag.Goals as goal

pub returns : goal.returns
returns c = λ base s m rest k. known-flag c.args.self c.args.value base s m rest k c.is_set.result c.is_set.ensures c.or.ensures
