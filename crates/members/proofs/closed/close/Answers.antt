use Rattle.members.specs.told.ClosedTold.{callable_in, callable_parts}
use Rattle.members.proofs.ClosedLaws.{close-absent, close-short, close-long}
use Rattle.members.proofs.closed.close.Goals as goal

pub returns-in_default-clause-written : goal.returns-in_default-clause-written
returns-in_default-clause-written c = close-absent (callable_in c.args.callable) (callable_parts c.args.callable) c.args.out.now.state c.default_of-written.ensures c.in_default.is c.put_default_absent.ensures.written

pub returns-then-size-le256-clause-written : goal.returns-then-size-le256-clause-written
returns-then-size-le256-clause-written c = close-short (callable_in c.args.callable) (callable_parts c.args.callable) c.args.out.now.state c.default_of-written.ensures c.in-Some.is c.if-size-le256.true c.put_aside.ensures.written

pub returns-clause-written : goal.returns-clause-written
returns-clause-written c = close-long (callable_in c.args.callable) (callable_parts c.args.callable) c.args.out.now.state c.default_of-written.ensures c.in-Some.is c.put_default.ensures.written c.default_of.ensures
