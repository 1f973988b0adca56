use mathlib.Core.Path.{refl, ap}
use Prim.Native.Nat.{ℕ, ◌-◌}
use Rattle.sheet.proofs.PutLaws.{areas_then}
use Rattle.declaration_rows.specs.Rows.{parameter_rows}
use Rattle.messages.proofs.BodiesLaws.{goes-start, goes-next, goes-to}
use Rattle.schema.specs.told.SchemaTold.{lent}
use Rattle.schema.specs.told.TypesTold.{picked_of}
use Rattle.schema.specs.told.MembersTold.{parameter_cost}
use Rattle.foundation.proofs.ErrorLaws.{handed_on}
use Rattle.schema.proofs.ListLaws.{Looping, unit_cheap, loop-start, loop-end, loop-refused, loop-kept}
use Rattle.members.proofs.ParameterLaws.{read_always, never_skipped, all_read}
use Rattle.schema.proofs.WroteLaws.{walked_err, walked_ok}
use Rattle.members.proofs.parameters.parameters_at.Goals as goal

pub loop-parameter-init : goal.loop-parameter-init
loop-parameter-init c =
    let a = c.args in
    let g = goes-start c.into_iter-parameter-iterator.ensures.into_iter_gives c.bodies_from-parameter-items.ensures (λ (at : ℕ). Looping read_always parameter_rows parameter_cost (lent a.context.now) a.msg.bytes.now a.msg.base a.number a.out.now.state a.out.now.sheet.now a.out.now.text.now at 0 a.out.now.state a.out.now.sheet.now a.out.now.text.now) loop-start in
    (g.0, g.1, (refl, refl, refl, refl))

pub loop-parameter-preserved : goal.loop-parameter-preserved
loop-parameter-preserved c = ((goes-next c.loop-parameter.invariant.0 c.in-Some.ensures.steps).1, rw (goes-to c.loop-parameter.invariant.0 c.in-Some.ensures.steps refl) (loop-kept c.loop-parameter.invariant.1 (goes-next c.loop-parameter.invariant.0 c.in-Some.ensures.steps).0 refl (unit_cheap parameter_cost (c.in-Some.parameter.end - c.in-Some.parameter.start)) (never_skipped (rw (c.part.ensures.0, c.part.ensures.1) at c.parameter_in.ensures.written)) (ap picked_of (walked_ok c.parameter_in.new.out c.in_ok-parameter_in.was))), areas_then c.args.out.now c.loop-parameter.out c.parameter_in.new.out c.loop-parameter.invariant.2 c.parameter_in.ensures.same_areas)

pub returns-in_err-parameter_in-clause-written : goal.returns-in_err-parameter_in-clause-written
returns-in_err-parameter_in-clause-written c = rw (handed_on _ c.from_residual.ensures.1) (all_read (loop-refused c.loop-parameter.invariant.1 (goes-next c.loop-parameter.invariant.0 c.in-Some.ensures.steps).0 refl (unit_cheap parameter_cost (c.in-Some.parameter.end - c.in-Some.parameter.start)) (never_skipped (rw (c.part.ensures.0, c.part.ensures.1) at c.parameter_in.ensures.written)) (ap picked_of (walked_err c.parameter_in.new.out c.in_err-parameter_in.was))))

pub returns-clause-written : goal.returns-clause-written
returns-clause-written c = all_read (loop-end c.loop-parameter.invariant.1 (goes-next c.loop-parameter.invariant.0 c.in-None.ensures.steps).0 refl)
