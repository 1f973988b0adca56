use mathlib.Core.Path.{refl}
use Prim.Native.Nat.{ℕ}
use Rattle.messages.proofs.BodiesLaws.{goes-start, goes-next, goes-to}
use Rattle.schema.specs.told.SchemaTold.{lent}
use Rattle.members.specs.Lists.{member_in}
use Rattle.string_marks.proofs.ListMarks.{MarksLoop, looping_start, looping_next, looping-kept}
use Rattle.string_marks.proofs.member_lists.mark_members.Goals as goal

pub loop-body-init : goal.loop-body-init
loop-body-init c =
    let a = c.args in
    goes-start c.into_iter-body-iterator.ensures.into_iter_gives c.bodies_from-body-items.ensures
    (λ (at : ℕ). MarksLoop (lent a.context.now) a.msg.base a.msg.bytes.now a.list.number (member_in a.list.member) a.used.now at a.used.now) looping_start

pub part-requires : goal.part-requires
part-requires c = let n = goes-next c.loop-body.invariant.0 c.in-Some.ensures.steps in (n.0.inside.0, n.0.inside.1)

pub loop-body-preserved : goal.loop-body-preserved
loop-body-preserved c =
    let n = goes-next c.loop-body.invariant.0 c.in-Some.ensures.steps in (
      n.1,
      rw (goes-to c.loop-body.invariant.0 c.in-Some.ensures.steps refl)
          (looping_next c.loop-body.invariant.1 n.0 refl (rw (c.part.ensures.0, c.part.ensures.1) at c.mark_member.ensures)),
    )

pub returns : goal.returns
returns c = looping-kept c.loop-body.invariant.1 (goes-next c.loop-body.invariant.0 c.in-None.ensures.steps).0 refl
