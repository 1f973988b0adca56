use Rattle.encoding.proofs.UnpackLaws.{Unpacking}
use Rattle.encoding.proofs.unpack.Given as goal

abbrev pub invariant-loop-unit : goal.invariant-loop-unit
invariant-loop-unit l = Unpacking l.units l.initial.area l.area l.buffer l.scale l.at l.unit-index
