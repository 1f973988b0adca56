use Rattle.schema.specs.told.SchemaTold.{lent}
use Rattle.descriptors.proofs.FunctionLaws.{receiver-there}
use Rattle.descriptors.proofs.defaults.receiver_part.Goals as goal

pub returns-then-has_receiver : goal.returns-then-has_receiver
returns-then-has_receiver c = receiver-there (lent c.args.context.now) c.args.msg.bytes.now c.args.msg.base c.args.at c.requires.stands c.has_receiver.ensures c.if-has_receiver.true c.type_part.ensures
