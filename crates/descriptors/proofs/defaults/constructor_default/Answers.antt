use Rattle.descriptors.proofs.FunctionLaws.{constructor-absent, constructor-done}
use Rattle.descriptors.proofs.defaults.constructor_default.Goals as goal

pub returns-in_err-size : goal.returns-in_err-size
returns-in_err-size c = rw c.from_residual.ensures (constructor-absent c.args.at c.args.area.now c.put.ensures c.parameter_parts.ensures c.in_err-size.was)

pub returns : goal.returns
returns c = constructor-done c.args.at c.args.area.now c.put.ensures c.parameter_parts.ensures c.in_ok-size.was c.put_all.ensures
