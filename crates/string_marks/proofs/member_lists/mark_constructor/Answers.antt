use Rattle.string_marks.proofs.ReadingLaws.{constructor-marks}
use Rattle.string_marks.proofs.member_lists.mark_constructor.Goals as goal

pub returns : goal.returns
returns c = constructor-marks c.mark_parameters.ensures c.mark_signature_in.ensures
