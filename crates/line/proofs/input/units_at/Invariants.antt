-- What is stored, and the numbers that are still to be, are all of them.
use Rattle.std.proofs.Common.{◌≡◌, ◌+◌, ◌-◌, ◌*◌, length}
use Rattle.std.proofs.lemmas.List.Edits.{sets}
use Rattle.line.specs.Input.{numbers_at}
use Rattle.line.proofs.input.units_at.Given as goal

abbrev pub invariant-loop-i : goal.invariant-loop-i
invariant-loop-i l =
    (length l.units ≡ length l.initial.units)
    × (sets l.initial.units 0 (numbers_at 2 l.bytes l.at l.size) ≡ sets l.units l.i (numbers_at 2 l.bytes (l.at + 2 * l.i) (l.size - l.i)))
