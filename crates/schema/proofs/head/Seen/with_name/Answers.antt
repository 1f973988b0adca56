use Rattle.schema.proofs.HeadLaws.{known-name}
use Rattle.schema.proofs.head.Seen.with_name.Goals as goal

pub returns : goal.returns
returns c = λ base s m rest k. known-name c.args.self c.args.value base s m rest k c.index_of.result c.index_of.ensures c.or.ensures
