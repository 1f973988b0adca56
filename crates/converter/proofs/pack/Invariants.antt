use Rattle.converter.proofs.PackLaws.{Packing}
use Rattle.converter.proofs.pack.Given as goal

abbrev pub invariant-loop-at : goal.invariant-loop-at
invariant-loop-at l = Packing l.bytes l.initial.units l.units l.buffer l.scale l.rest.rest.now l.at
