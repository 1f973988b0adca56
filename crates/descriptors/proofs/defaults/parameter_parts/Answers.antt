use mathlib.Core.Path.{refl, ◌∙◌}
use Rattle.schema.specs.told.SchemaTold.{lent}
use Rattle.messages.proofs.BodiesLaws.{goes-start, goes-next, goes-to}
use Rattle.descriptors.proofs.DefaultLaws.{Parting, parts-start, parts-end, part_room, parts-absent, parts_next}
use Rattle.descriptors.proofs.defaults.parameter_parts.Goals as goal

pub loop-parameter-init : goal.loop-parameter-init
loop-parameter-init c =
    let g = goes-start c.into_iter-parameter-iterator.ensures.into_iter_gives c.bodies_from-parameter-items.ensures (λ at. Parting (lent c.args.context.now) c.args.msg.bytes.now c.args.msg.base c.args.number c.args.at c.args.area.now at 0 c.args.area.now) (parts-start (lent c.args.context.now) c.args.msg.bytes.now c.args.msg.base c.args.number c.args.at c.args.area.now c.requires.stands) in
    (g.0, g.1, refl)

pub returns : goal.returns
returns c = parts-end c.loop-parameter.invariant.1 (goes-next c.loop-parameter.invariant.0 c.in-None.ensures.steps).0 refl

pub type_part-requires : goal.type_part-requires
type_part-requires c = rw (c.part.ensures.0, c.part.ensures.1) (part_room c.loop-parameter.invariant.1 (goes-next c.loop-parameter.invariant.0 c.in-Some.ensures.steps).0 refl c.requires)

pub returns-in_err-size : goal.returns-in_err-size
returns-in_err-size c = rw c.from_residual.ensures (parts-absent c.loop-parameter.invariant.1 (goes-next c.loop-parameter.invariant.0 c.in-Some.ensures.steps).0 refl c.requires.stands (rw (c.part.ensures.0, c.part.ensures.1) at c.type_part.ensures) c.in_err-size.was)

pub loop-parameter-preserved : goal.loop-parameter-preserved
loop-parameter-preserved c =
    let l = c.loop-parameter in
    let n = goes-next l.invariant.0 c.in-Some.ensures.steps in
    let on = parts_next l.invariant.1 n.0 refl c.requires.stands (rw (c.part.ensures.0, c.part.ensures.1) at c.type_part.ensures) c.in_ok-size.was in
    (n.1, rw (goes-to l.invariant.0 c.in-Some.ensures.steps refl) on, c.type_part.auto.area ∙ l.invariant.2)
