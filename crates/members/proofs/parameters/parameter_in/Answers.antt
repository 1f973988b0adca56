use Rattle.schema.specs.told.SchemaTold.{lent}
use Rattle.schema.proofs.CountLaws.{affords-after, affords-ready}
use Rattle.members.proofs.ParameterLaws.{parameter-within, parameter-told}
use native.Mathlib.Omega.{arith}
use Rattle.members.proofs.parameters.parameter_in.Goals as goal

pub type_pair-requires : goal.type_pair-requires
type_pair-requires c = (affords-ready (affords-after c.requires.0 0 (parameter-within c.requires.0 c.name_in-name.result c.declares_default-default.result c.put_parameter.ensures.written) (omega arith)), c.requires.1)

pub returns-clause-written : goal.returns-clause-written
returns-clause-written c = let a = c.args in let e = lent a.context.now in parameter-told e a.msg.bytes.now a.msg.base a.out.now.state c.name_in-name.result c.name_in-name.ensures c.requires.0 c.declares_default-default.result c.declares_default-default.ensures c.put_parameter.ensures.written c.type_pair.ensures.written
