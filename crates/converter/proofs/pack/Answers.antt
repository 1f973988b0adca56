use Rattle.std.proofs.Common.{rules}
use Rattle.converter.proofs.PackLaws.{pack_start, next_byte, pack-held, pack-byte}
use Rattle.converter.proofs.pack.Goals as goal

pub loop-at-init : goal.loop-at-init
loop-at-init c = pack_start c.args.bytes.now c.args.units.now c.requires.0 c.iter-rest.ensures.rest

pub loop-at-preserved-then-scale-eq128 : goal.loop-at-preserved-then-scale-eq128
loop-at-preserved-then-scale-eq128 c = pack-held _ _ _ _ _ _ _ c.loop-at-test.true c.loop-at.invariant _ _ c.if-scale-eq128.true c.carrying_unit.ensures c.put.ensures

pub loop-at-preserved : goal.loop-at-preserved
loop-at-preserved c = pack-byte _ _ _ _ _ _ _ c.loop-at-test.true c.loop-at.invariant _ _ (next_byte _ c.next.result _ c.next.ensures.steps (search rules)) _ _ c.if-scale-eq128.false c.carrying_unit-in-loop-at.ensures c.put-in-loop-at.ensures
