use Prim.Native.Nat.{◌<◌, ◌≤◌, ◌*◌}
use lib.ListN.{length}
use Rattle.lookup.specs.told.Strings.{Keeps, codes_from}
use Rattle.lookup.proofs.codes.note_codes.Given as goal

abbrev pub invariant-loop-index : goal.invariant-loop-index
invariant-loop-index l = Keeps (codes_from (length l.initial.notes)) l.initial.notes l.notes × (l.at < l.count) × (3 * l.count ≤ length l.notes)
