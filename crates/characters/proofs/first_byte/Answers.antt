use mathlib.Core.Path.{◌∙◌}
use native.Mathlib.Omega.{arith}
use Rattle.characters.proofs.RowLaws.{row_is, stray}
use Rattle.characters.proofs.first_byte.Goals as goal

pub returns-in-224 : goal.returns-in-224
returns-in-224 c = c.leads.ensures ∙ row_is 2 (omega arith) c.from-n.ensures (omega arith)

pub returns-in-237 : goal.returns-in-237
returns-in-237 c = c.leads-in-237.ensures ∙ row_is 4 (omega arith) c.from-n.ensures (omega arith)

pub returns-in-240 : goal.returns-in-240
returns-in-240 c = c.leads-in-240.ensures ∙ row_is 6 (omega arith) c.from-n.ensures (omega arith)

pub returns-in-244 : goal.returns-in-244
returns-in-244 c = c.leads-in-244.ensures ∙ row_is 8 (omega arith) c.from-n.ensures (omega arith)

pub returns-in-194-to-223 : goal.returns-in-194-to-223
returns-in-194-to-223 c = c.leads-in-194-to-223.ensures ∙ row_is 1 (omega arith) c.from-n.ensures (omega arith)

pub returns-in-225-to-236 : goal.returns-in-225-to-236
returns-in-225-to-236 c = c.leads-in-225-to-236.ensures ∙ row_is 3 (omega arith) c.from-n.ensures (omega arith)

pub returns-in-238-to-239 : goal.returns-in-238-to-239
returns-in-238-to-239 c = c.leads-in-238-to-239.ensures ∙ row_is 5 (omega arith) c.from-n.ensures (omega arith)

pub returns-in-241-to-243 : goal.returns-in-241-to-243
returns-in-241-to-243 c = c.leads-in-241-to-243.ensures ∙ row_is 7 (omega arith) c.from-n.ensures (omega arith)

pub returns-in_default : goal.returns-in_default
returns-in_default c = stray 0x80 0xc1 tt (omega arith) (omega arith)

pub returns-in_default-2 : goal.returns-in_default-2
returns-in_default-2 c = stray 0xf5 0xff tt (omega arith) (omega arith)
