use Rattle.std.proofs.Common.{rules, ◌∙◌}
use Rattle.line.proofs.InputLaws.{numbers-placed, number-whole}
use Rattle.line.proofs.input.ends_at.Goals as goal

pub loop-i-preserved : goal.loop-i-preserved
loop-i-preserved c =
    let a = c.args in
    let s = c.loop-i in
    let x = c.four_in.ensures.0 ∙ number-whole 4 a.bytes.now _ in
    (search rules, numbers-placed 4 a.bytes.now _ s.ends a.at s.i _ _ c.loop-i-test.true x s.invariant.1)
