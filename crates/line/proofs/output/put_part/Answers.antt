use Rattle.std.proofs.Common.{sym, ◌∙◌}
use Rattle.std.proofs.lemmas.Bool.{eqb-true, eqb-false}
use Rattle.line.proofs.OutputLaws.{part-empty, part-digits}
use Rattle.line.proofs.output.put_part.Goals as goal

pub returns-then-is_empty : goal.returns-then-is_empty
returns-then-is_empty c =
    part-empty c.args.bytes.now (eqb-true _ _ (sym c.is_empty.ensures ∙ c.if-is_empty.true)) c.put.ensures c.put-then-is_empty.ensures

pub returns : goal.returns
returns c = part-digits c.args.bytes.now (eqb-false _ _ (sym c.is_empty.ensures ∙ c.if-is_empty.false)) c.put.ensures c.put_hex.ensures
