use Rattle.wire.proofs.VarintLaws.{Joined}
use Rattle.wire.proofs.number_of.Given as goal

abbrev pub invariant-loop-digit : goal.invariant-loop-digit
invariant-loop-digit g l = Joined g.row.BASE l.value l.digits l.digit-iterator.iter.rest.now
