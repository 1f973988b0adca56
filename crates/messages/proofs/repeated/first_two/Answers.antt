use mathlib.Core.List.{[], ◌∷◌}
use Prim.Native.Nat.{ℕ}
use Rattle.foundation.proofs.ErrorLaws.{handed_on}
use Rattle.wire.proofs.FieldsLaws.{walks-start, walks-next}
use Rattle.messages.specs.declared.repeated.Two.TheVariants.{Neither}
use Rattle.messages.proofs.SkippedLaws.{given}
use Rattle.messages.proofs.RepeatedLaws.{Pushing, pushing-start, pushing-end, pushing-skipped, pushing-never, pushing-passed, pushing-next, pushing-refused}
use Rattle.messages.proofs.repeated.first_two.Goals as goal

pub loop-read-init : goal.loop-read-init
loop-read-init c =
    let a = c.args in
    let P : ℕ → Type 0 = λ x. Pushing a.number a.s.base a.s.bytes.now x Neither in
    walks-start c.into_iter-read-iterator.ensures.into_iter_gives c.fields_from-read-items.ensures P (pushing-start a.number a.s.base a.s.bytes.now)

pub returns-in_default : goal.returns-in_default
returns-in_default c =
    let a = c.args in
    let l = c.loop-read in
    let x = given a.s.base a.s.bytes.now (a.number ∷ []) (walks-next l.invariant.0 c.in-Some.ensures.steps).0 c.in_default.is in
    λ m w. pushing-never a.number a.s.base a.s.bytes.now x.0 l.two (pushing-skipped a.number a.s.base a.s.bytes.now _ l.two l.invariant.1 x.1) _ x.3 x.2 m w

pub loop-read-preserved : goal.loop-read-preserved
loop-read-preserved c =
    let a = c.args in
    let l = c.loop-read in
    let n = walks-next l.invariant.0 c.in-Some.ensures.steps in
    let x = given a.s.base a.s.bytes.now (a.number ∷ []) n.0 c.in-Ok.is in
    (n.1, pushing-passed a.number a.s.base a.s.bytes.now x.0 l.two (pushing-skipped a.number a.s.base a.s.bytes.now _ l.two l.invariant.1 x.1) _ x.3 x.2 c.if-field-number.false)

pub push_value-requires : goal.push_value-requires
push_value-requires c =
    let a = c.args in
    (given a.s.base a.s.bytes.now (a.number ∷ []) (walks-next c.loop-read.invariant.0 c.in-Some.ensures.steps).0 c.in-Ok.is).3.1

pub returns-in_err-two : goal.returns-in_err-two
returns-in_err-two c =
    let a = c.args in
    let l = c.loop-read in
    let x = given a.s.base a.s.bytes.now (a.number ∷ []) (walks-next l.invariant.0 c.in-Some.ensures.steps).0 c.in-Ok.is in
    rw (handed_on _ c.from_residual.ensures.1) (pushing-refused a.number a.s.base a.s.bytes.now x.0 l.two (pushing-skipped a.number a.s.base a.s.bytes.now _ l.two l.invariant.1 x.1) _ x.3 x.2 c.if-field-number.true c.push_value.ensures c.in_err-two.was)

pub loop-read-preserved-then-field-number : goal.loop-read-preserved-then-field-number
loop-read-preserved-then-field-number c =
    let a = c.args in
    let l = c.loop-read in
    let n = walks-next l.invariant.0 c.in-Some.ensures.steps in
    let x = given a.s.base a.s.bytes.now (a.number ∷ []) n.0 c.in-Ok.is in
    (n.1, pushing-next a.number a.s.base a.s.bytes.now x.0 l.two (pushing-skipped a.number a.s.base a.s.bytes.now _ l.two l.invariant.1 x.1) _ x.3 x.2 c.if-field-number.true c.push_value.ensures c.in_ok-two.was)

pub returns : goal.returns
returns c =
    let a = c.args in
    let l = c.loop-read in
    let x = (walks-next l.invariant.0 c.in-None.ensures.steps).0.gives in
    λ m w. pushing-end a.number a.s.base a.s.bytes.now _ l.two (pushing-skipped a.number a.s.base a.s.bytes.now _ l.two l.invariant.1 x.0) x.1 m w
