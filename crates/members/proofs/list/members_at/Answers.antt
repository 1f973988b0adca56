use mathlib.Core.Path.{refl, ap, ◌∙◌}
use Prim.Native.Nat.{ℕ, ◌^◌}
use Rattle.std.specs.declared.result.Result.TheVariants.{Ok}
use Rattle.messages.proofs.BodiesLaws.{goes-start, goes-next, goes-to}
use Rattle.sheet.proofs.PutLaws.{areas_then}
use Rattle.schema.specs.told.SchemaTold.{lent}
use Rattle.foundation.proofs.ErrorLaws.{handed_on}
use Rattle.schema.proofs.WroteLaws.{picked_true, picked_false, picked_err}
use Rattle.schema.proofs.ListLaws.{Looping, bytes_cheap, loop-start, member-in, member-affords, loop-end, loop-refused, loop-dropped, loop-kept}
use Rattle.schema.proofs.StandsLaws.{body-stands}
use Rattle.members.specs.Lists.{member_in, member_rows}
use Rattle.members.proofs.MemberLists.{stayed}
use Rattle.members.proofs.list.members_at.Goals as goal

pub loop-body-init : goal.loop-body-init
loop-body-init c =
    let a = c.args in
    let g = goes-start c.into_iter-body-iterator.ensures.into_iter_gives c.bodies_from-body-items.ensures (λ (at : ℕ). Looping (member_in a.list.member) (member_rows a.list.member) (2 ^ 25) (lent a.context.now) a.msg.bytes.now a.msg.base a.list.number a.out.now.state a.out.now.sheet.now a.out.now.text.now at 0 a.out.now.state a.out.now.sheet.now a.out.now.text.now) loop-start in
    (g.0, g.1, (refl, refl, refl, refl))

pub member_in-requires : goal.member_in-requires
member_in-requires c = let h = member-in c.loop-body.invariant.1 (goes-next c.loop-body.invariant.0 c.in-Some.ensures.steps).0 refl in rw (c.part.ensures.0, c.part.ensures.1) (member-affords c.loop-body.invariant.1 (goes-next c.loop-body.invariant.0 c.in-Some.ensures.steps).0 refl (bytes_cheap (2 ^ 25) c.args.msg.bytes.now c.in-Some.body.start c.in-Some.body.end) c.requires.0, body-stands c.requires.1 c.in-Some.body.start c.in-Some.body.end h.1 h.2)

pub loop-body-preserved-then-kept : goal.loop-body-preserved-then-kept
loop-body-preserved-then-kept c = ((goes-next c.loop-body.invariant.0 c.in-Some.ensures.steps).1, rw (goes-to c.loop-body.invariant.0 c.in-Some.ensures.steps refl) (loop-kept c.loop-body.invariant.1 (goes-next c.loop-body.invariant.0 c.in-Some.ensures.steps).0 refl (bytes_cheap (2 ^ 25) c.args.msg.bytes.now c.in-Some.body.start c.in-Some.body.end) (rw (c.part.ensures.0, c.part.ensures.1) at c.member_in.ensures.written) (picked_true c.member_in.new.out (c.in_ok-kept.was ∙ ap Ok c.if-kept.true))), areas_then c.args.out.now c.loop-body.out c.member_in.new.out c.loop-body.invariant.2 c.member_in.ensures.same_areas)

pub loop-body-preserved : goal.loop-body-preserved
loop-body-preserved c = ((goes-next c.loop-body.invariant.0 c.in-Some.ensures.steps).1, rw (goes-to c.loop-body.invariant.0 c.in-Some.ensures.steps refl, stayed c.loop-body.out c.member_in.new.out c.member_in.ensures.stays (c.in_ok-kept.was ∙ ap Ok c.if-kept.false)) (loop-dropped c.loop-body.invariant.1 (goes-next c.loop-body.invariant.0 c.in-Some.ensures.steps).0 refl (bytes_cheap (2 ^ 25) c.args.msg.bytes.now c.in-Some.body.start c.in-Some.body.end) (rw (c.part.ensures.0, c.part.ensures.1) at c.member_in.ensures.written) (picked_false c.member_in.new.out (c.in_ok-kept.was ∙ ap Ok c.if-kept.false))), areas_then c.args.out.now c.loop-body.out c.member_in.new.out c.loop-body.invariant.2 c.member_in.ensures.same_areas)

pub returns-in_err-kept-clause-written : goal.returns-in_err-kept-clause-written
returns-in_err-kept-clause-written c = rw (handed_on _ c.from_residual.ensures.1) (loop-refused c.loop-body.invariant.1 (goes-next c.loop-body.invariant.0 c.in-Some.ensures.steps).0 refl (bytes_cheap (2 ^ 25) c.args.msg.bytes.now c.in-Some.body.start c.in-Some.body.end) (rw (c.part.ensures.0, c.part.ensures.1) at c.member_in.ensures.written) (picked_err c.member_in.new.out c.in_err-kept.was))

pub returns-clause-written : goal.returns-clause-written
returns-clause-written c = loop-end c.loop-body.invariant.1 (goes-next c.loop-body.invariant.0 c.in-None.ensures.steps).0 refl
