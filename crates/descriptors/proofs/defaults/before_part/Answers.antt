use Rattle.std.proofs.Common.{ap, sym}
use Rattle.descriptors.specs.told.PartsTold.{preceded}
use Rattle.descriptors.proofs.FunctionLaws.{before-absent, before-done}
use Rattle.descriptors.proofs.defaults.before_part.Goals as goal

pub returns-in_err-receiver : goal.returns-in_err-receiver
returns-in_err-receiver c = rw c.from_residual.ensures (before-absent c.args.msg.bytes.now c.receiver_part.ensures c.in_err-receiver.was)

pub returns : goal.returns
returns c =
    before-done c.args.msg.bytes.now c.receiver_part.ensures c.in_ok-receiver.was c.parameter_parts.ensures
    (ap (preceded c.in_ok-receiver.receiver) (sym c.in_ok-parameters.was))
