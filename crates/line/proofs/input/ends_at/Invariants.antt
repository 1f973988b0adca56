-- What is stored, and the numbers that are still to be, are all of them.
use Rattle.std.proofs.Common.{◌≡◌, ◌+◌, ◌-◌, ◌*◌, length}
use Rattle.std.proofs.lemmas.List.Edits.{sets}
use Rattle.line.specs.Input.{numbers_at}
use Rattle.line.proofs.input.ends_at.Given as goal

abbrev pub invariant-loop-i : goal.invariant-loop-i
invariant-loop-i l =
    (length l.ends ≡ length l.initial.ends)
    × (sets l.initial.ends 0 (numbers_at 4 l.bytes l.at l.size) ≡ sets l.ends l.i (numbers_at 4 l.bytes (l.at + 4 * l.i) (l.size - l.i)))
