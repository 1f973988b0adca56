use Rattle.encoding.proofs.UnpackLaws.{unpack_start, unpack-more, unpack-byte}
use Rattle.encoding.proofs.unpack.Goals as goal

pub loop-unit-init : goal.loop-unit-init
loop-unit-init c = unpack_start c.args.units.now c.args.area.now

pub loop-unit-preserved-then-scale-eq1 : goal.loop-unit-preserved-then-scale-eq1
loop-unit-preserved-then-scale-eq1 c =
    unpack-more _ _ _ _ _ _ _ _ c.loop-unit-test.true c.low_seven.ensures c.loop-unit.invariant c.if-scale-eq1.true

pub loop-unit-preserved : goal.loop-unit-preserved
loop-unit-preserved c =
    unpack-byte _ _ _ _ _ _ _ _ c.loop-unit-test.true c.low_seven.ensures c.loop-unit.invariant c.if-scale-eq1.false
