use Rattle.members.proofs.PairLaws.{pair_then}
use Rattle.schema.proofs.WroteLaws.{walked_ok}
use Rattle.members.proofs.pairs.type_pair.Goals as goal

pub returns-clause-written : goal.returns-clause-written
returns-clause-written c = pair_then c.args.pair c.declared_type.ensures.written (walked_ok c.declared_type.new.out c.in_ok-declared_type.was) c.declared_type-2.ensures.written
