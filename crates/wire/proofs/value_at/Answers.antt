use Rattle.std.proofs.Common.{rules}
use mathlib.Core.Path.{◌∙◌, ap}
use Rattle.foundation.proofs.ErrorLaws.{handed_on}
use Rattle.foundation.specs.Results.{map_got}
use Rattle.wire.specs.Wire.{varint, body}
use Rattle.wire.specs.told.WireTold.{rest_of}
use Rattle.wire.proofs.FieldLaws.{value-varint, value-fixed8, value-body, value-fixed4, value-other}
use Rattle.wire.proofs.value_at.Goals as goal

pub returns-in_err-read-in-0 : goal.returns-in_err-read-in-0
returns-in_err-read-in-0 c =
    let a = c.args in
    rw (handed_on _ c.from_residual.ensures.1) (value-varint a.place (rest_of a.s.base a.s.bytes.now a.at) c.in-0.is ∙ ap (map_got varint) (c.in_err-read-in-0.ensures.inside c.requires))

pub returns-in_ok-read-in-0 : goal.returns-in_ok-read-in-0
returns-in_ok-read-in-0 c =
    let a = c.args in
    (value-varint a.place (rest_of a.s.base a.s.bytes.now a.at) c.in-0.is ∙ ap (map_got varint) (c.in_ok-read-in-0.ensures.inside c.requires), tt)

pub returns-in-1 : goal.returns-in-1
returns-in-1 c =
    let a = c.args in
    rw (value-fixed8 a.place (rest_of a.s.base a.s.bytes.now a.at) c.in-1.is) c.fixed_at.ensures

pub returns-in_err-body-in-2 : goal.returns-in_err-body-in-2
returns-in_err-body-in-2 c =
    let a = c.args in
    rw (handed_on _ c.from_residual-in_err-body-in-2.ensures.1) (value-body a.place (rest_of a.s.base a.s.bytes.now a.at) c.in-2.is ∙ ap (map_got body) (c.in_err-body-in-2.ensures.inside c.requires))

pub returns-in_ok-body-in-2 : goal.returns-in_ok-body-in-2
returns-in_ok-body-in-2 c =
    let a = c.args in
    let t = c.in_ok-body-in-2.ensures.inside c.requires in
    (value-body a.place (rest_of a.s.base a.s.bytes.now a.at) c.in-2.is ∙ ap (map_got body) t.0, t.1)

pub returns-in-5 : goal.returns-in-5
returns-in-5 c =
    let a = c.args in
    rw (value-fixed4 a.place (rest_of a.s.base a.s.bytes.now a.at) c.in-5.is) c.fixed_at-in-5.ensures

pub returns-in_default : goal.returns-in_default
returns-in_default c =
    let a = c.args in
    value-other a.place (rest_of a.s.base a.s.bytes.now a.at) (search rules) (search rules) (search rules) (search rules)
