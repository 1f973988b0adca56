use Rattle.std.proofs.Common.{Ok}
use Rattle.std.proofs.lemmas.Result.{err_from_is_err_and}
use Rattle.passes.proofs.PassLaws.{opened-stops}
use Rattle.passes.proofs.JoinedLaws.{joined-limits, joined-passes, deepest-lent}
use Rattle.passes.proofs.open_in.Goals as goal

pub open_joined-requires : goal.open_joined-requires
open_joined-requires c = c.requires.d2-short

pub returns-in_err-opened-clause-written : goal.returns-in_err-opened-clause-written
returns-in_err-opened-clause-written c =
    let a = c.args in
    let u = a.units.now in
    let o = c.open_joined in
    let p = err_from_is_err_and c.from_residual.result c.from_residual.ensures.1 in
    joined-passes o.ensures.joined a.asked u.d2.now u.ends.now o.new.notes _ a.areas.now.sheet.now a.areas.now.sheet.now a.areas.now.text.now a.areas.now.text.now
    (rw p.1 (opened-stops a.asked o.new.bytes u.d2.now u.ends.now o.new.notes c.in_err-opened.field-0.0 c.in_err-opened.ensures.opened p.0 p.2 a.areas.now.sheet.now a.areas.now.text.now))

pub read_in-requires : goal.read_in-requires
read_in-requires c = (joined-limits c.open_joined.ensures.joined c.requires, deepest-lent c.in_ok-opened.ensures.opened _ c.deepest_of-deepest.ensures)

pub returns-in_err-reply-clause-written : goal.returns-in_err-reply-clause-written
returns-in_err-reply-clause-written c =
    let a = c.args in
    let u = a.units.now in
    let o = c.open_joined in
    let p = err_from_is_err_and c.from_residual-in_err-reply.result c.from_residual-in_err-reply.ensures.1 in
    joined-passes o.ensures.joined a.asked u.d2.now u.ends.now o.new.notes _ a.areas.now.sheet.now c.read_in.new.areas.sheet.now a.areas.now.text.now c.read_in.new.areas.text.now
    (rw (p.1, p.2) c.in_err-reply.ensures.written)

pub returns-clause-written : goal.returns-clause-written
returns-clause-written c =
    let a = c.args in
    let u = a.units.now in
    let o = c.open_joined in
    joined-passes o.ensures.joined a.asked u.d2.now u.ends.now o.new.notes (Ok c.in_ok-reply.reply) a.areas.now.sheet.now c.read_in.new.areas.sheet.now a.areas.now.text.now c.read_in.new.areas.text.now c.in_ok-reply.ensures.written
