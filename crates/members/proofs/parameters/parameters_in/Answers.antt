use Rattle.foundation.proofs.ErrorLaws.{handed_on}
use Rattle.members.proofs.ParameterLaws.{parameters-uncut, parameters-cut}
use Rattle.members.proofs.parameters.parameters_in.Goals as goal

pub returns-in_err-check_messages-clause-written : goal.returns-in_err-check_messages-clause-written
returns-in_err-check_messages-clause-written c = rw (handed_on _ c.from_residual.ensures.1) (parameters-uncut c.check_messages.result c.check_messages.ensures c.in_err-check_messages.was)

pub returns-clause-written : goal.returns-clause-written
returns-clause-written c = parameters-cut c.check_messages.result c.check_messages.ensures c.in_ok-check_messages.was c.parameters_at.ensures.written
