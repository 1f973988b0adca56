use mathlib.Core.List.{[], ◌∷◌}
use native.Mathlib.Omega.{arith}
use Rattle.wire.proofs.FieldsLaws.{walks-start, walks-next}
use Rattle.messages.proofs.FindLaws.{Occur, find-start}
use Rattle.messages.proofs.SkippedLaws.{occur-over, occur-never, occur-found, occur-passed}
use Rattle.messages.proofs.find.Goals as goal

pub loop-read-init : goal.loop-read-init
loop-read-init c =
    let a = c.args in
    walks-start c.into_iter-read-iterator.ensures.into_iter_gives c.fields_from-read-items.ensures (Occur a.number a.s.base a.s.bytes.now 0) (find-start a.number a.s.base a.s.bytes.now 0)

pub returns-in_default : goal.returns-in_default
returns-in_default c =
    let a = c.args in
    let l = c.loop-read.invariant in
    occur-never a.s.base a.s.bytes.now (a.number ∷ []) 0 (omega arith) (walks-next l.0 c.in-Some.ensures.steps).0 c.in_default.is l.1

pub returns-then-field-number : goal.returns-then-field-number
returns-then-field-number c =
    let a = c.args in
    let l = c.loop-read.invariant in
    occur-found a.s.base a.s.bytes.now (a.number ∷ []) 0 (omega arith) (walks-next l.0 c.in-Some.ensures.steps).0 c.in-Ok.is l.1 c.if-field-number.true

pub loop-read-preserved : goal.loop-read-preserved
loop-read-preserved c =
    let a = c.args in
    let l = c.loop-read.invariant in
    let n = walks-next l.0 c.in-Some.ensures.steps in
    (n.1, occur-passed a.s.base a.s.bytes.now (a.number ∷ []) 0 (omega arith) n.0 c.in-Ok.is l.1 c.if-field-number.false)

pub returns : goal.returns
returns c =
    let a = c.args in
    let l = c.loop-read.invariant in
    occur-over a.s.base a.s.bytes.now (a.number ∷ []) 0 (omega arith) (walks-next l.0 c.in-None.ensures.steps).0 l.1
