use Rattle.characters.proofs.SizeLaws.{Summing}
use Rattle.characters.proofs.measure.block_size.Given as goal

abbrev pub invariant-loop-i : goal.invariant-loop-i
invariant-loop-i l = Summing l.units l.from l.to l.i l.size
