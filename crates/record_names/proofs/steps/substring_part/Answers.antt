use Rattle.record_names.proofs.PartLaws.{moved_is, part_none, part-some}
use Rattle.record_names.proofs.steps.substring_part.Goals as goal

pub returns-in_err-part : goal.returns-in_err-part
returns-in_err-part c = rw (c.from_residual.ensures, ← c.wide.ensures, ← c.wide-2.ensures) (part_none c.args.payload.now c.bytes_of.result.now c.args.base c.bytes_of.ensures c.wide.result c.wide-2.result c.in_err-part.ensures)

pub returns : goal.returns
returns c = rw (moved_is c.args.base.part.start _ _ c.moved.ensures, ← c.wide.ensures, ← c.wide-2.ensures) (part-some c.args.payload.now c.bytes_of.result.now c.args.base c.bytes_of.ensures c.wide.result c.wide-2.result c.in_ok-part.ensures)
