use Rattle.fields.specs.Fields.{TypeTable-type}
use Rattle.messages.proofs.BodiesLaws.{Goes}
use Rattle.joined_types.proofs.MovedLaws.{EntriesBefore}
use Rattle.joined_types.proofs.count_entries.Given as goal

abbrev pub invariant-loop : goal.invariant-loop
invariant-loop l = Goes l.iterator' 0 l.s TypeTable-type × EntriesBefore l.s l.iterator'.at l.count
