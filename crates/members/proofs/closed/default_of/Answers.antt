use Rattle.members.specs.declared.closed.Callable.TheVariants as callable
use Rattle.members.proofs.ClosedLaws.{of_constructor_lem, of_function_lem, default-so}
use Rattle.members.proofs.closed.default_of.Goals as goal

pub returns-in-Constructor : goal.returns-in-Constructor
returns-in-Constructor c = default-so callable.Constructor c.in-Constructor.is (of_constructor_lem c.constructor_default.ensures)

pub returns-in-Function : goal.returns-in-Function
returns-in-Function c = default-so callable.Function c.in-Function.is (of_function_lem c.function_default.ensures)
