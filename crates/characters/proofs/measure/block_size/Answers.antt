use Rattle.characters.proofs.SizeLaws.{summing_start, summing-fits, summing-next, summing-end}
use Rattle.characters.proofs.measure.block_size.Goals as goal

pub loop-i-init : goal.loop-i-init
loop-i-init c = summing_start c.args.units.now _ _ c.requires.0

pub overflow_add-size : goal.overflow_add-size
overflow_add-size c = record { fits = summing-fits c.loop-i.invariant c.loop-i-test.true c.unit_size-size.ensures c.requires.2 }

pub loop-i-preserved : goal.loop-i-preserved
loop-i-preserved c = summing-next c.loop-i.invariant c.loop-i-test.true c.unit_size-size.ensures

pub returns : goal.returns
returns c = summing-end c.loop-i.invariant c.loop-i-test.false
