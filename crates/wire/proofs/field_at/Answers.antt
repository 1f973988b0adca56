use native.Mathlib.Omega.{arith}
use Rattle.foundation.proofs.ErrorLaws.{handed_on}
use Rattle.wire.specs.told.WireTold.{rest_of}
use Rattle.wire.proofs.FieldLaws.{varint-inside, field-refused, read-inside, read-past}
use Rattle.wire.proofs.field_at.Goals as goal

pub returns-in-Some : goal.returns-in-Some
returns-in-Some c =
    let f = c.in-Some.ensures in
    record { inside = λ h. f.is c.args.s.base; past = λ h. absurd (omega (arith, f.later, f.inside)) }

pub returns-in_err-tag : goal.returns-in_err-tag
returns-in_err-tag c =
    let a = c.args in
    let t = c.in_err-tag.ensures in
    rw (handed_on _ c.from_residual.ensures.1) (record { inside = λ h. field-refused (rest_of a.s.base a.s.bytes.now a.at) (t.inside h); past = read-past t })

pub tagged_at-requires : goal.tagged_at-requires
tagged_at-requires c =
    let a = c.args in
    let t = c.in_ok-tag.ensures in
    let h = read-inside t in
    let i = varint-inside a.s.base a.s.bytes.now a.at c.in_ok-tag.tag (t.inside h) h in
    (h, i.1)

pub returns : goal.returns
returns c =
    let t = c.in_ok-tag.ensures in
    let h = read-inside t in
    record { inside = λ k. c.tagged_at.ensures (t.inside k); past = λ p. absurd (omega arith) }
