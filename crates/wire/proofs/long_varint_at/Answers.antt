use mathlib.Core.Path.{refl}
use native.Mathlib.Omega.{arith}
use Rattle.foundation.proofs.ErrorLaws.{handed_on}
use Rattle.wire.proofs.VarintLaws.{varint-past, steps-refused, steps-fit, steps-read}
use Rattle.wire.proofs.long_varint_at.Goals as goal

pub returns-then-s-at : goal.returns-then-s-at
returns-then-s-at c =
    let a = c.args in
    record { inside = varint-past a.s.base a.s.bytes.now a.at c.if-s-at.true; past = λ h. refl }

pub returns-in_err-count : goal.returns-in_err-count
returns-in_err-count c =
    let a = c.args in
    rw (handed_on _ c.from_residual.ensures.1) (record { inside = λ h. steps-refused a.s.base a.s.bytes.now a.at c.groups_at.new.groups _ c.in_err-count.ensures; past = λ h. absurd (omega arith) })

pub number_of-value-requires : goal.number_of-value-requires
number_of-value-requires c =
    let a = c.args in
    (omega arith, steps-fit a.s.base a.s.bytes.now a.at c.groups_at.new.groups c.in_ok-count.count c.in_ok-count.ensures)

pub returns : goal.returns
returns c =
    let a = c.args in
    record { inside = λ h. steps-read a.s.base a.s.bytes.now a.at c.groups_at.new.groups c.in_ok-count.count c.in_ok-count.ensures c.number_of-value.ensures; past = λ h. absurd (omega arith) }
