use mathlib.Core.Path.{sym}
use lib.Seq.{length-take-le}
use Rattle.line.proofs.TakenLaws.{counts-fit}
use Rattle.answer_lines.proofs.AnswerLaws.{wrote_line_of}
use Rattle.answer_lines.proofs.answer_input.Goals as goal

pub slice_bounds-put_answer-end : goal.slice_bounds-put_answer-end
slice_bounds-put_answer-end g c = sym (length-take-le _ _ c.take_input-taken.ensures.took.1.inside)

pub put_answer-requires : goal.put_answer-requires
put_answer-requires g c = counts-fit c.take_input-taken.ensures.took.1.so_far

pub returns : goal.returns
returns g c = wrote_line_of c.take_input-taken.ensures c.put_answer.ensures
