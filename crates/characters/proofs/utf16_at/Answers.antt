use mathlib.Core.Path.{◌∙◌}
use native.Mathlib.Omega.{arith}
use Rattle.characters.proofs.TestLaws.{above, within}
use Rattle.characters.proofs.UnitLaws.{unit-none, unit-plain, unit-low, unit-high}
use Rattle.characters.proofs.utf16_at.Goals as goal

pub returns-then-units-at : goal.returns-then-units-at
returns-then-units-at c = unit-none c.args.units.now _ c.if-units-at.true

pub returns-then-unit-lt55296 : goal.returns-then-unit-lt55296
returns-then-unit-lt55296 c = unit-plain c.args.units.now _ c.if-units-at.false c.from-unit.ensures c.then-unit-lt55296.either

pub returns-then-unit-gt56319 : goal.returns-then-unit-gt56319
returns-then-unit-gt56319 c = c.replaced.ensures ∙ unit-low c.args.units.now _ c.if-units-at.false c.from-unit.ensures (above _ _ _ c.if-unit-gt56319.true) (within _ _ _ (omega arith) c.if-unit-gt57343.false)

pub returns : goal.returns
returns c = c.paired_at.ensures ∙ unit-high c.args.units.now _ c.if-units-at.false c.from-unit.ensures (within _ _ _ c.if-unit-lt55296.false c.if-unit-gt56319.false)
