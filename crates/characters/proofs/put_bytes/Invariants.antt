use Rattle.characters.proofs.WriteLaws.{LeftBytes}
use Rattle.characters.proofs.put_bytes.Given as goal

abbrev pub invariant-loop-i : goal.invariant-loop-i
invariant-loop-i g l = LeftBytes l.fn.bytes l.initial.area l.fn.at l.i l.area
