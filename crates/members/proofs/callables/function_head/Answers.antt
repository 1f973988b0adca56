use Rattle.members.proofs.CallableLaws.{function_head}
use Rattle.members.proofs.callables.function_head.Goals as goal

pub returns-clause-written : goal.returns-clause-written
returns-clause-written c = function_head c.args.name c.args.signed c.requires c.flags_in-flags.result c.flags_in-flags.ensures c.names_of-own.result c.names_of-own.ensures c.or.result c.or.ensures c.has_receiver-receiver.result c.has_receiver-receiver.ensures c.put_function.ensures.written
