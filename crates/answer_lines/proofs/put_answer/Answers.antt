use native.Mathlib.Omega.{arith}
use Rattle.answer_lines.proofs.AnswerLaws.{wrote_short, wrote_whole}
use Rattle.answer_lines.proofs.put_answer.Goals as goal

pub returns-then-taken-input_end : goal.returns-then-taken-input_end
returns-then-taken-input_end c = λ bs s e. wrote_short bs c.args.taken s (omega (arith, c.input_end.ensures, c.if-taken-input_end.true)) c.put_all.ensures

pub returns : goal.returns
returns c = λ bs s e. wrote_whole bs c.args.taken s (omega (arith, c.input_end.ensures, c.if-taken-input_end.false)) e c.put_kept.ensures
