use Rattle.record_names.proofs.PartLaws.{moved_is, inner-same, inner_cut}
use Rattle.record_names.proofs.steps.inner_part.Goals as goal

pub returns-in_default : goal.returns-in_default
returns-in_default c = inner-same c.args.payload.now c.bytes_of.result.now c.args.base c.bytes_of.ensures c.in_default.ensures

pub returns : goal.returns
returns c = rw (moved_is c.args.base.part.start _ _ c.moved.ensures) (inner_cut c.args.payload.now c.bytes_of.result.now c.args.base c.bytes_of.ensures c.in-Some.ensures)
