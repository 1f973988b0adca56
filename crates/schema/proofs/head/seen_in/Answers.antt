use native.Mathlib.Omega.{arith}
use Rattle.wire.proofs.WalkLaws.{field-inside}
use Rattle.schema.proofs.HeadLaws.{seeing-start, seeing-end, seeing-never, seeing-next}
use Rattle.schema.proofs.head.seen_in.Goals as goal

pub loop-at-init : goal.loop-at-init
loop-at-init c = seeing-start c.args.msg.base c.args.msg.bytes.now

pub returns-in_default : goal.returns-in_default
returns-in_default c = λ m w. seeing-never c.args.msg.base c.args.msg.bytes.now c.loop-at.at c.loop-at.seen c.loop-at.invariant c.loop-at-test.true _ (c.in_default.ensures.inside (omega arith)) m w

pub loop-at-smaller : goal.loop-at-smaller
loop-at-smaller c = let h = field-inside c.args.msg.base c.args.msg.bytes.now c.loop-at.at c.in-Ok.read (c.in-Ok.ensures.inside (omega arith)) (omega arith) in omega arith

pub loop-at-preserved : goal.loop-at-preserved
loop-at-preserved c = seeing-next c.args.msg.base c.args.msg.bytes.now c.loop-at.at c.loop-at.seen c.loop-at.invariant c.loop-at-test.true c.in-Ok.read (c.in-Ok.ensures.inside (omega arith)) c.with_field-seen.result c.with_field-seen.ensures

pub returns : goal.returns
returns c = seeing-end c.args.msg.base c.args.msg.bytes.now c.loop-at.at c.loop-at.seen c.loop-at.invariant c.loop-at-test.false
