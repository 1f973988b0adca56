use Rattle.foundation.proofs.ErrorLaws.{handed_on}
use Rattle.type_references.proofs.EnterLaws.{counted-uncut, counted-all}
use Rattle.schema.specs.told.SchemaTold.{lent}
use Rattle.type_references.proofs.enter.count_arguments.Goals as goal

pub returns-in_err-check_messages : goal.returns-in_err-check_messages
returns-in_err-check_messages c = rw (handed_on _ c.from_residual.ensures.1) (counted-uncut (lent c.args.context.now) c.args.msg.bytes.now c.args.msg.base c.args.left c.check_messages.ensures c.in_err-check_messages.was)

pub returns : goal.returns
returns c = counted-all (lent c.args.context.now) c.args.msg.bytes.now c.args.msg.base c.args.left c.check_messages.ensures c.in_ok-check_messages.was c.count_kept.ensures
