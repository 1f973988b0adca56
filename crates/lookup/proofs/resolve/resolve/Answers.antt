use mathlib.Core.Path.{◌∙◌}
use Rattle.lookup.proofs.ResolveLaws.{resolving_next, resolving_end}
use Rattle.lookup.proofs.resolve.resolve.Goals as goal

pub loop-at-preserved : goal.loop-at-preserved
loop-at-preserved c = (c.resolve_one.auto.notes ∙ c.loop-at.invariant.0, resolving_next c.args.bytes.now c.args.notes.now c.loop-at.notes _ c.loop-at.at c.loop-at.invariant.0 c.loop-at.invariant.1 c.resolve_one.ensures)

pub returns : goal.returns
returns c = λ records m x. resolving_end c.args.bytes.now c.args.notes.now c.loop-at.notes c.args.count c.loop-at.at c.loop-at.invariant.0 c.loop-at.invariant.1 c.loop-at-test.false records x
