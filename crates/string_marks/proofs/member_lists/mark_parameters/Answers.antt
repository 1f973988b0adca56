use mathlib.Core.Path.{refl}
use Prim.Native.Nat.{ℕ}
use Rattle.messages.proofs.BodiesLaws.{goes-start, goes-next, goes-to}
use Rattle.wire.specs.Wire.{Message}
use Rattle.schema.specs.Reading.{Scope}
use Rattle.schema.specs.Members.{parameter_in}
use Rattle.schema.specs.told.SchemaTold.{lent}
use Rattle.schema.proofs.EachLaws.{always}
use Rattle.string_marks.proofs.ListMarks.{MarksLoop, looping_start, looping_next, looping-each, always-in}
use Rattle.string_marks.proofs.member_lists.mark_parameters.Goals as goal

pub loop-parameter-init : goal.loop-parameter-init
loop-parameter-init c =
    let a = c.args in
    goes-start c.into_iter-parameter-iterator.ensures.into_iter_gives c.bodies_from-parameter-items.ensures
    (λ (at : ℕ). MarksLoop (lent a.context.now) a.msg.base a.msg.bytes.now a.number (λ (s : Scope) (m : Message). always (parameter_in s m)) a.used.now at a.used.now) looping_start

pub part-requires : goal.part-requires
part-requires c = let n = goes-next c.loop-parameter.invariant.0 c.in-Some.ensures.steps in (n.0.inside.0, n.0.inside.1)

pub loop-parameter-preserved : goal.loop-parameter-preserved
loop-parameter-preserved c =
    let n = goes-next c.loop-parameter.invariant.0 c.in-Some.ensures.steps in (
      n.1,
      rw (goes-to c.loop-parameter.invariant.0 c.in-Some.ensures.steps refl)
          (looping_next c.loop-parameter.invariant.1 n.0 refl (always-in (rw (c.part.ensures.0, c.part.ensures.1) at c.mark_parameter.ensures))),
    )

pub returns : goal.returns
returns c = looping-each c.loop-parameter.invariant.1 (goes-next c.loop-parameter.invariant.0 c.in-None.ensures.steps).0 refl
