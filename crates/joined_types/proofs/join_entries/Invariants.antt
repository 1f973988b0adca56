use Rattle.schema.specs.told.SchemaTold.{entries_in}
use Rattle.joined_types.proofs.EntriesLaws.{Entering}
use Rattle.joined_types.proofs.join_entries.Given as goal

abbrev pub invariant-loop-i : goal.invariant-loop-i
invariant-loop-i l = Entering l.context.payload.now (entries_in l.context.tables l.context.notes.now) l.deepest l.i l.last
