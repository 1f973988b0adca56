use mathlib.Core.Path.{◌≡◌}
use Prim.Native.Nat.{◌*◌, ◌≤◌}
use lib.ListN.{length}
use Rattle.fields.specs.Fields.{StringTableTypes-record}
use Rattle.messages.proofs.BodiesLaws.{Goes}
use Rattle.names.proofs.NoteLaws.{Noting}
use Rattle.names.proofs.records.note_records.Given as goal

abbrev pub invariant-loop-record : goal.invariant-loop-record
invariant-loop-record l =
    Goes l.record-iterator 0 l.bytes StringTableTypes-record
    × (length l.notes ≡ length l.initial.notes)
    × (l.count ≤ l.record-iterator.at)
    × (l.total ≤ 4294967295 * l.count)
    × (l.count ≤ l.room)
    × Noting l.bytes l.at l.notes l.total l.count l.record-iterator.at
