use Rattle.members.specs.declared.closed.Callable.TheVariants as callable
use Rattle.members.proofs.ClosedLaws.{read-so}
use Rattle.members.proofs.closed.callable_in.Goals as goal

pub returns-in-Constructor-clause-written : goal.returns-in-Constructor-clause-written
returns-in-Constructor-clause-written c = read-so callable.Constructor c.in-Constructor.is c.constructor_in.ensures.written

pub returns-in-Function-clause-written : goal.returns-in-Function-clause-written
returns-in-Function-clause-written c = read-so callable.Function c.in-Function.is c.function_in.ensures.written
