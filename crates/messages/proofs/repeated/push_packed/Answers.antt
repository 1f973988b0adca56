use mathlib.Core.Path.{◌∙◌, sym, ap}
use native.Mathlib.Omega.{arith}
use Rattle.foundation.specs.Results.{Part}
use Rattle.wire.specs.Wire.{packed}
use Rattle.wire.specs.told.WireTold.{rest_of}
use Rattle.messages.specs.told.Repeated.{pushed_to}
use Rattle.messages.specs.declared.repeated.Two.{Two}
use Rattle.foundation.proofs.ErrorLaws.{handed_on}
use Rattle.wire.proofs.FieldLaws.{varint-inside}
use Rattle.wire.proofs.WalkLaws.{whole}
use Rattle.messages.proofs.RepeatedLaws.{run_end, run-next, run-refused}
use Rattle.messages.proofs.repeated.push_packed.Goals as goal

pub loop-at-init : goal.loop-at-init
loop-at-init c =
    let a = c.args in
    ap (λ (p : Part). pushed_to a.two (packed p)) (sym (whole a.run.base a.run.bytes.now))

pub returns-in_err-read : goal.returns-in_err-read
returns-in_err-read c =
    let a = c.args in
    let l = c.loop-at in
    rw (handed_on _ c.from_residual.ensures.1) (l.invariant ∙ run-refused a.run.base a.run.bytes.now l.at _ c.loop-at-test.true _ (c.in_err-read.ensures.inside (omega arith)))

pub loop-at-smaller : goal.loop-at-smaller
loop-at-smaller c =
    let a = c.args in
    let h = varint-inside a.run.base a.run.bytes.now c.loop-at.at c.in_ok-read.read (c.in_ok-read.ensures.inside (omega arith)) (omega arith) in
    omega arith

pub loop-at-preserved : goal.loop-at-preserved
loop-at-preserved c =
    let a = c.args in
    let l = c.loop-at in
    l.invariant ∙ run-next a.run.base a.run.bytes.now l.at _ c.loop-at-test.true c.in_ok-read.read (c.in_ok-read.ensures.inside (omega arith)) ∙ ap (λ (t : Two). pushed_to t (packed (rest_of a.run.base a.run.bytes.now c.in_ok-read.read.next))) (sym c.push-have.ensures)

pub returns : goal.returns
returns c =
    let a = c.args in
    let l = c.loop-at in
    l.invariant ∙ run_end a.run.base a.run.bytes.now l.at _ c.loop-at-test.false
