use Rattle.members.proofs.CallableLaws.{types-returned}
use Rattle.schema.proofs.WroteLaws.{walked_ok}
use Rattle.members.proofs.callables.function_types.Goals as goal

pub returns-clause-written : goal.returns-clause-written
returns-clause-written c = types-returned c.args.signed c.declared_type.ensures.written (walked_ok c.declared_type.new.out c.in_ok-declared_type.was) c.in_ok-signed.was c.declared_type-2.ensures.written
