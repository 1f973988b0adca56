use mathlib.Core.Path.{refl, sym, subst}
use Rattle.std.proofs.lemmas.Result.{err_from_is_err_and}
use Rattle.messages.proofs.BodyLaws.{checked_in, Cutting, cutting-start, piece-in, cutting-none, cutting-refused, cutting-next}
use Rattle.messages.proofs.BodiesLaws.{goes-start, goes-next, goes-to}
use Rattle.messages.proofs.check_messages.Goals as goal

pub loop-body-init : goal.loop-body-init
loop-body-init c =
    let a = c.args in
    goes-start c.into_iter-body-iterator.ensures.into_iter_gives c.bodies_from-body-items.ensures (Cutting a.number a.s.base a.s.bytes.now) (cutting-start _ a.s.base a.s.bytes.now)

pub part-requires : goal.part-requires
part-requires c =
    let a = c.args in
    let l = c.loop-body in
    let n = goes-next l.invariant.0 c.in-Some.ensures.steps in
    let h = piece-in a.number a.s.base a.s.bytes.now l.body-iterator.at l.invariant.1 n.0 refl in
    (h.0, h.1)

pub returns-in_err-check : goal.returns-in_err-check
returns-in_err-check c =
    let a = c.args in
    let l = c.loop-body in
    let n = goes-next l.invariant.0 c.in-Some.ensures.steps in
    let p = err_from_is_err_and c.from_residual.result c.from_residual.ensures.1 in
    let d = checked_in a.s.base a.s.bytes.now c.in-Some.body c.part.ensures c.check.result c.check.ensures in
    rw (p.1, p.2) (cutting-refused a.number a.s.base a.s.bytes.now l.body-iterator.at l.invariant.1 n.0 refl d c.in_err-check.was)

pub loop-body-preserved : goal.loop-body-preserved
loop-body-preserved c =
    let a = c.args in
    let l = c.loop-body in
    let n = goes-next l.invariant.0 c.in-Some.ensures.steps in
    let d = checked_in a.s.base a.s.bytes.now c.in-Some.body c.part.ensures c.check.result c.check.ensures in
    let on = cutting-next a.number a.s.base a.s.bytes.now l.body-iterator.at l.invariant.1 n.0 refl d c.in_ok-check.was in
    (n.1, subst (Cutting a.number a.s.base a.s.bytes.now) (sym (goes-to l.invariant.0 c.in-Some.ensures.steps refl)) on)

pub returns : goal.returns
returns c =
    let a = c.args in
    let l = c.loop-body in
    let n = goes-next l.invariant.0 c.in-None.ensures.steps in
    cutting-none a.number a.s.base a.s.bytes.now l.body-iterator.at l.invariant.1 n.0 refl
