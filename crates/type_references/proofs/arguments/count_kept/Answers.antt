use mathlib.Core.Path.{refl}
use Rattle.messages.proofs.BodiesLaws.{goes-start, goes-next, goes-to}
use Rattle.type_references.proofs.ArgumentLaws.{Counting, counting-start, counting-end, counting_kept, counting-dropped}
use Rattle.schema.specs.told.SchemaTold.{lent}
use Rattle.type_references.proofs.arguments.count_kept.Goals as goal

pub loop-argument-init : goal.loop-argument-init
loop-argument-init c = goes-start c.into_iter-argument-iterator.ensures.into_iter_gives c.bodies_from-argument-items.ensures (λ at. Counting (lent c.args.context.now) c.args.msg.bytes.now c.args.msg.base c.args.left at 0) (counting-start (lent c.args.context.now) c.args.msg.bytes.now c.args.msg.base c.args.left)

pub returns : goal.returns
returns c = counting-end (lent c.args.context.now) c.args.msg.bytes.now c.args.msg.base c.args.left c.loop-argument.argument-iterator.at c.loop-argument.count c.loop-argument.invariant.1 (goes-next c.loop-argument.invariant.0 c.in-None.ensures.steps).0 refl

pub loop-argument-preserved-then-is_kept : goal.loop-argument-preserved-then-is_kept
loop-argument-preserved-then-is_kept c =
    let n = goes-next c.loop-argument.invariant.0 c.in-Some.ensures.steps in
    (n.1, rw (goes-to c.loop-argument.invariant.0 c.in-Some.ensures.steps refl) (counting_kept (lent c.args.context.now) c.args.msg.bytes.now c.args.msg.base c.args.left c.loop-argument.argument-iterator.at c.loop-argument.count c.loop-argument.invariant.1 n.0 refl (rw (c.part.ensures.0, c.part.ensures.1) at c.is_kept.ensures) c.if-is_kept.true))

pub loop-argument-preserved : goal.loop-argument-preserved
loop-argument-preserved c =
    let n = goes-next c.loop-argument.invariant.0 c.in-Some.ensures.steps in
    (n.1, rw (goes-to c.loop-argument.invariant.0 c.in-Some.ensures.steps refl) (counting-dropped (lent c.args.context.now) c.args.msg.bytes.now c.args.msg.base c.args.left c.loop-argument.argument-iterator.at c.loop-argument.count c.loop-argument.invariant.1 n.0 refl (rw (c.part.ensures.0, c.part.ensures.1) at c.is_kept.ensures) c.if-is_kept.false))
