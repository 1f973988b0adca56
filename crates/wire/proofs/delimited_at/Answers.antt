use native.Mathlib.Omega.{arith}
use Rattle.foundation.proofs.ErrorLaws.{handed_on}
use Rattle.wire.specs.told.WireTold.{rest_of}
use Rattle.wire.proofs.FieldLaws.{varint-inside, delimited_refused, delimited-past, delimited-there, read-inside, read-past}
use Rattle.wire.proofs.delimited_at.Goals as goal

pub returns-in_err-size : goal.returns-in_err-size
returns-in_err-size c =
    let a = c.args in
    let t = c.in_err-size.ensures in
    rw (handed_on _ c.from_residual.ensures.1) (record { inside = λ h. delimited_refused (rest_of a.s.base a.s.bytes.now a.at) (t.inside h); past = read-past t })

pub overflow_sub-left : goal.overflow_sub-left
overflow_sub-left c =
    let a = c.args in
    let t = c.in_ok-size.ensures in
    let h = read-inside t in
    let i = varint-inside a.s.base a.s.bytes.now a.at c.in_ok-size.size (t.inside h) h in
    omega arith

pub returns-then-left-size : goal.returns-then-left-size
returns-then-left-size c =
    let a = c.args in
    let t = c.in_ok-size.ensures in
    let h = read-inside t in
    record { inside = λ h. delimited-past a.s.base a.s.bytes.now a.at c.in_ok-size.size (t.inside h) c.if-left-size.true; past = λ p. absurd (omega arith) }

pub returns : goal.returns
returns c =
    let a = c.args in
    let t = c.in_ok-size.ensures in
    let h = read-inside t in
    let i = varint-inside a.s.base a.s.bytes.now a.at c.in_ok-size.size (t.inside h) h in
    record { inside = λ h. (delimited-there a.s.base a.s.bytes.now a.at c.in_ok-size.size (t.inside h) c.if-left-size.false, (omega arith, omega arith, omega arith)); past = λ p. absurd (omega arith) }
