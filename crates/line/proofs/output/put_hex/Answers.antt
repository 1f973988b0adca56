use Rattle.line.proofs.OutputLaws.{hex-placed, hex-end}
use Rattle.line.proofs.output.put_hex.Goals as goal

pub loop-i-preserved : goal.loop-i-preserved
loop-i-preserved c = hex-placed c.args.bytes.now _ c.loop-i.area c.args.at c.loop-i.i c.loop-i-test.true c.glyph.ensures c.put.ensures c.glyph-in-loop-i.ensures c.put-in-loop-i.ensures c.loop-i.invariant

pub returns : goal.returns
returns c = hex-end c.args.bytes.now _ _ c.args.at c.loop-i.i c.loop-i-test.false c.loop-i.invariant
