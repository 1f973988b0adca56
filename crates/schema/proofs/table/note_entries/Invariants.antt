use mathlib.Core.Path.{◌≡◌}
use Prim.Native.Nat.{◌≤◌}
use lib.ListN.{length}
use Rattle.fields.specs.Fields.{TypeTable-type}
use Rattle.messages.proofs.BodiesLaws.{Goes}
use Rattle.schema.proofs.TableLaws.{EntriesNoting}
use Rattle.schema.proofs.table.note_entries.Given as goal

abbrev pub invariant-loop-entry : goal.invariant-loop-entry
invariant-loop-entry l =
    Goes l.entry-iterator 0 l.bytes TypeTable-type
    × (length l.notes ≡ length l.initial.notes)
    × (l.count ≤ l.entry-iterator.at)
    × EntriesNoting l.bytes l.at l.notes l.count l.entry-iterator.at
