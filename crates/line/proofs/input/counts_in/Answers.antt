use Rattle.line.specs.told.Pieces.{counts_in}
use Rattle.line.proofs.input.counts_in.Goals as goal

pub returns : goal.returns
unfolding counts_in
returns c = rw (← c.four_in.ensures.0, ← c.four_in-2.ensures.0, ← c.four_in-3.ensures.0)
