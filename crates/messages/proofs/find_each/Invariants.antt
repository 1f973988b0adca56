use Prim.Native.Nat.{ℕ, ◌<◌}
use lib.ListN.{get_or}
use Rattle.std.specs.Prelude.{None}
use Rattle.wire.proofs.FieldsLaws.{Walks}
use Rattle.messages.proofs.SeenLaws.{SeenBefore}
use Rattle.messages.proofs.find_each.Given as goal

abbrev pub invariant-loop-read : goal.invariant-loop-read
invariant-loop-read g l =
    Walks l.read-iterator l.s.base l.s.bytes.now l.numbers
    × ((i : ℕ) → i < g.row.N → SeenBefore (get_or l.numbers i 0) l.s.base l.s.bytes.now l.read-iterator.at (get_or l.found i None))
