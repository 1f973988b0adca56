use Rattle.std.proofs.lemmas.Result.{err_from_is_err_and}
use Rattle.messages.proofs.BodyLaws.{checked_in, message_none, message-in, message-cut, message-refused}
use Rattle.messages.proofs.message.Goals as goal

pub returns-in_default : goal.returns-in_default
returns-in_default c =
    let a = c.args in
    message_none a.number a.s.base a.s.bytes.now c.bytes.ensures c.in_default.is

pub part-requires : goal.part-requires
part-requires c =
    let a = c.args in
    let h = message-in a.number a.s.base a.s.bytes.now c.bytes.ensures c.in-Some.is in
    (h.0, h.1)

pub returns-in_err-check : goal.returns-in_err-check
returns-in_err-check c =
    let a = c.args in
    let p = err_from_is_err_and c.from_residual.result c.from_residual.ensures.1 in
    let d = checked_in a.s.base a.s.bytes.now c.in-Some.body c.part.ensures c.check.result c.check.ensures in
    rw (p.1, p.2) (message-refused a.number a.s.base a.s.bytes.now c.bytes.ensures c.in-Some.is d c.in_err-check.was)

pub returns : goal.returns
returns c =
    let a = c.args in
    let d = checked_in a.s.base a.s.bytes.now c.in-Some.body c.part.ensures c.check.result c.check.ensures in
    message-cut a.number a.s.base a.s.bytes.now c.bytes.ensures c.in-Some.is d c.in_ok-check.was
