use Rattle.messages.proofs.CheckLaws.{checked_whole}
use Rattle.messages.proofs.check.Goals as goal

pub returns : goal.returns
returns c =
    let a = c.args in
    checked_whole a.s.base a.s.bytes.now c.check_from.result c.check_from.ensures
