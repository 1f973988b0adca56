use mathlib.Core.Path.{sym}
use Rattle.foundation.proofs.ErrorLaws.{handed_on}
use Rattle.wire.specs.told.WireTold.{rest_of}
use Rattle.wire.proofs.FieldLaws.{field-large, field-forbidden, field-not, field-read}
use Rattle.wire.proofs.tagged_at.Goals as goal

pub returns-in_default : goal.returns-in_default
returns-in_default c =
    let a = c.args in
    λ e. field-large (rest_of a.s.base a.s.bytes.now a.at) e c.in_default.ensures

pub returns-then-not-is_field_number : goal.returns-then-not-is_field_number
returns-then-not-is_field_number c =
    let a = c.args in
    λ e. field-forbidden (rest_of a.s.base a.s.bytes.now a.at) e c.in-Ok.ensures.0 c.in-Ok.ensures.1 (sym c.if-not-is_field_number.ensures)

pub returns-in_err-read : goal.returns-in_err-read
returns-in_err-read c =
    let a = c.args in
    λ e. rw (handed_on _ c.from_residual.ensures.1) (field-not a.s.base a.s.bytes.now a.at a.tag e c.in-Ok.ensures.1 (sym c.if-not-is_field_number.ensures) _ c.in_err-read.ensures)

pub returns : goal.returns
returns c =
    let a = c.args in
    λ e. field-read a.s.base a.s.bytes.now a.at a.tag e c.in-Ok.ensures.1 (sym c.if-not-is_field_number.ensures) _ c.in_ok-read.ensures
