use Rattle.messages.proofs.RepeatedLaws.{push-varint, push-fixed, body-inside, push-body}
use Rattle.messages.proofs.repeated.push_value.Goals as goal

pub part-requires : goal.part-requires
part-requires c =
    let a = c.args in
    let h = body-inside a.s.base a.s.bytes.now a.two c.in-Body.is c.requires in
    (h.0, h.1)

pub returns-in-Varint : goal.returns-in-Varint
returns-in-Varint c =
    let a = c.args in
    push-varint a.s.base a.s.bytes.now a.two c.in-Varint.is c.push.ensures

pub returns-in-Fixed : goal.returns-in-Fixed
returns-in-Fixed c =
    let a = c.args in
    push-fixed a.s.base a.s.bytes.now a.two c.in-Fixed.is

pub returns-in-Body : goal.returns-in-Body
returns-in-Body c =
    let a = c.args in
    push-body a.s.base a.s.bytes.now a.two c.in-Body.is c.requires c.part.ensures c.push_packed.result c.push_packed.ensures
