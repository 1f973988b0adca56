use Rattle.inputs.specs.told.KindTold.{kind_number}
use lib.Dec.{eqb}
use Rattle.string_marks.proofs.ReadingLaws.{after-table-marks}
use Rattle.string_marks.proofs.body.mark_body.Goals as goal

pub returns : goal.returns
returns c = after-table-marks (eqb (kind_number c.args.kind) 1) c.mark_head.ensures c.mark_lists.ensures
