use Rattle.string_marks.proofs.ReadingLaws.{parameter-marks}
use Rattle.string_marks.proofs.member_lists.mark_parameter.Goals as goal

pub returns : goal.returns
returns c = parameter-marks c.mark_name.ensures c.mark_declared.ensures c.mark_declared-2.ensures
