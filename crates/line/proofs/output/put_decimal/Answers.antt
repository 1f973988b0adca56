use Rattle.std.proofs.Common.{◌∙◌}
use Rattle.line.proofs.OutputLaws.{wrote_decimal}
use Rattle.line.proofs.output.put_decimal.Goals as goal

pub returns : goal.returns
returns c = wrote_decimal _ _ _ _ _ c.ranges.n.fits (c.as_bytes-digits.ensures.value ∙ c.format.ensures.text) c.put_all.ensures
