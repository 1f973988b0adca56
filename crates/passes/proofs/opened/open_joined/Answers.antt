use Rattle.passes.proofs.JoinedLaws.{joined-put_back}
use Rattle.passes.proofs.opened.open_joined.Goals as goal

pub returns-clause-joined : goal.returns-clause-joined
returns-clause-joined c = joined-put_back c.args.bytes.now c.join_body.new.s c.in-Ok.parts c.in-Ok.ensures c.join_body.ensures
