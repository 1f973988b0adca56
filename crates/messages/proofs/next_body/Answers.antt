use mathlib.Core.List.{[], ◌∷◌}
use Prim.Native.Nat.{ℕ, ◌≤◌}
use native.Mathlib.Omega.{arith}
use Rattle.wire.proofs.FieldsLaws.{walks-start, walks-next}
use Rattle.messages.proofs.BodyLaws.{BodiesLeft, bodies-start}
use Rattle.messages.proofs.SkippedLaws.{bodies-over, bodies-refused, bodies-passed, bodies-found, step-later}
use Rattle.messages.proofs.next_body.Goals as goal

pub loop-read-init : goal.loop-read-init
loop-read-init c =
    let a = c.args in
    let P : ℕ → Type 0 = λ x. (a.at ≤ x) × BodiesLeft a.number a.s.base a.s.bytes.now a.at x in
    let w = walks-start c.into_iter-read-iterator.ensures.into_iter_gives c.fields_from-read-items.ensures P (omega arith, bodies-start a.number a.s.base a.s.bytes.now a.at) in
    (w.0, w.1.0, w.1.1)

pub returns-in_default : goal.returns-in_default
returns-in_default c =
    let a = c.args in
    let l = c.loop-read.invariant in
    bodies-refused a.s.base a.s.bytes.now (a.number ∷ []) 0 (omega arith) (walks-next l.0 c.in-Some.ensures.steps).0 c.in_default.is a.at l.2

pub returns-in-Some-body_of : goal.returns-in-Some-body_of
returns-in-Some-body_of c =
    let a = c.args in
    let l = c.loop-read.invariant in
    bodies-found a.s.base a.s.bytes.now (a.number ∷ []) 0 (omega arith) (walks-next l.0 c.in-Some.ensures.steps).0 c.in-Ok.is a.at l.2 c.body_of.ensures l.1 c.in-Some-body_of.is

pub loop-read-preserved : goal.loop-read-preserved
loop-read-preserved c =
    let a = c.args in
    let l = c.loop-read.invariant in
    let n = walks-next l.0 c.in-Some.ensures.steps in
    let h = step-later a.s.base a.s.bytes.now (a.number ∷ []) n.0 c.in-Ok.is in
    (n.1, omega arith, bodies-passed a.s.base a.s.bytes.now (a.number ∷ []) 0 (omega arith) n.0 c.in-Ok.is a.at l.2 c.body_of.ensures c.in_default-body_of.is)

pub returns : goal.returns
returns c =
    let a = c.args in
    let l = c.loop-read.invariant in
    bodies-over a.s.base a.s.bytes.now (a.number ∷ []) 0 (omega arith) (walks-next l.0 c.in-None.ensures.steps).0 a.at l.2
