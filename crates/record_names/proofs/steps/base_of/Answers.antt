use Rattle.record_names.proofs.PartLaws.{moved_is, base-string, base-listed}
use Rattle.record_names.proofs.steps.base_of.Goals as goal

pub returns-in-Some : goal.returns-in-Some
returns-in-Some c = rw (moved_is c.args.from _ _ c.moved.ensures) (base-string c.args.from c.args.index c.in-Some.is)

pub returns : goal.returns
returns c = base-listed c.args.from c.args.index c.in_default.is c.in_ok-index.was c.predefined.result c.predefined.ensures c.in_ok-predefined.was
