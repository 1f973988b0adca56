use mathlib.Core.Path.{◌∙◌}
use Rattle.characters.proofs.TestLaws.{apart, within}
use Rattle.characters.proofs.UnitLaws.{pair-missing, pair-wrong, pair-right}
use Rattle.characters.proofs.paired_at.Goals as goal

pub returns-then-units-at : goal.returns-then-units-at
returns-then-units-at c = c.replaced.ensures ∙ pair-missing c.args.units.now _ _ c.if-units-at.true

pub returns-then-low-lt56320 : goal.returns-then-low-lt56320
returns-then-low-lt56320 c = c.replaced-then-low-lt56320.ensures ∙ pair-wrong c.args.units.now _ c.if-units-at.false c.from-low.ensures _ (apart _ _ _ c.then-low-lt56320.either)

pub returns : goal.returns
returns c = pair-right c.args.units.now _ c.if-units-at.false c.from-low.ensures _ (within _ _ _ c.if-low-lt56320.false c.if-low-gt57343.false)
