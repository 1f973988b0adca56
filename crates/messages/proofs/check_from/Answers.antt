use mathlib.Core.List.{[]}
use Prim.Native.Nat.{ℕ}
use Rattle.std.specs.Prelude.{Result, Ok, Err}
use Rattle.foundation.proofs.ErrorLaws.{handed_on}
use Rattle.wire.specs.Wire.{cut}
use Rattle.wire.specs.told.WireTold.{rest_of}
use Rattle.wire.specs.declared.WireError.{WireError}
use Rattle.wire.proofs.FieldsLaws.{walks-start, walks-next}
use Rattle.messages.specs.told.Asked.{CheckedTold}
use Rattle.messages.proofs.SkippedLaws.{checked-over, checked-refused, checked-next}
use Rattle.messages.proofs.check_from.Goals as goal

pub loop-field-init : goal.loop-field-init
loop-field-init c =
    let a = c.args in
    let P : ℕ → Type 0 = λ x. (r : Result Unit WireError) → CheckedTold (cut (rest_of a.s.base a.s.bytes.now x)) r → CheckedTold (cut (rest_of a.s.base a.s.bytes.now a.at)) r in
    walks-start c.into_iter-field-iterator.ensures.into_iter_gives c.fields_from-field-items.ensures P (λ r h. h)

pub returns-in_err-field : goal.returns-in_err-field
returns-in_err-field c =
    let a = c.args in
    let l = c.loop-field.invariant in
    let n = walks-next l.0 c.in-Some.ensures.steps in
    rw (handed_on _ c.from_residual.ensures.1) (l.1 (Err c.in_err-field.field-0.0) (checked-refused a.s.base a.s.bytes.now [] n.0 c.in_err-field.was))

pub loop-field-preserved : goal.loop-field-preserved
loop-field-preserved c =
    let a = c.args in
    let l = c.loop-field.invariant in
    let n = walks-next l.0 c.in-Some.ensures.steps in
    (n.1, λ r h. l.1 r (checked-next a.s.base a.s.bytes.now [] n.0 c.in_ok-field.was r h))

pub returns : goal.returns
returns c =
    let a = c.args in
    let l = c.loop-field.invariant in
    l.1 (Ok tt) (checked-over a.s.base a.s.bytes.now [] (walks-next l.0 c.in-None.ensures.steps).0)
