use Rattle.std.proofs.Common.{◌≡◌, ◌+◌, ◌*◌, drop}
use Rattle.std.proofs.lemmas.List.Edits.{sets}
use Rattle.line.specs.Line.{hex_of}
use Rattle.line.proofs.output.put_hex.Given as goal

abbrev pub invariant-loop-i : goal.invariant-loop-i
invariant-loop-i l = sets l.initial.area l.at (hex_of l.bytes) ≡ sets l.area (l.at + 2 * l.i) (hex_of (drop l.i l.bytes))
