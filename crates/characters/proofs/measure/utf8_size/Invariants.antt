use Rattle.characters.proofs.SizeLaws.{Measuring}
use Rattle.characters.proofs.measure.utf8_size.Given as goal

abbrev pub invariant-loop-from : goal.invariant-loop-from
invariant-loop-from l = Measuring l.units l.from l.size
