-- What stands at the area's beginning is what the reader has given.
use Rattle.std.proofs.Common.{length, ◌-◌, ◌≡◌, ◌≤◌, take}
use Rattle.std.specs.Io.KnownBytes.{Consumes}
use Rattle.line.proofs.stream.read_full.Given as goal

abbrev pub invariant-loop-done : goal.invariant-loop-done
invariant-loop-done g l = (length l.area ≡ length l.initial.area) × (l.done ≤ length l.area) × Consumes (g.R.Read.remaining l.initial.reader) (g.R.Read.remaining l.reader) (take l.done l.area)

abbrev pub decreases-loop-done : goal.decreases-loop-done
decreases-loop-done g l = length l.area - l.done
