use Rattle.std.proofs.Common.{rules}
use mathlib.Core.Bool.{true, false}
use mathlib.Core.Path.{◌∙◌}
use Rattle.inputs.specs.Inputs.{input}
use Rattle.inputs.proofs.InputLaws.{d1-long, d2-long, strings-many, ends-unfit, version-newer, no_fault, major-read}
use Rattle.inputs.proofs.fault_of.Goals as goal
use Rattle.inputs.proofs.fault_of.Goals.{then-units-gt-UNIT_LIMIT-2-via-then-units-gt-UNIT_LIMIT-2, then-units-gt-UNIT_LIMIT-2-via-else-units-gt-UNIT_LIMIT-2+then-units-gt-STRING_LIMIT}

pub returns-then-units-gt-UNIT_LIMIT : goal.returns-then-units-gt-UNIT_LIMIT
returns-then-units-gt-UNIT_LIMIT c = λ k. d1-long (input k c.args.version c.args.units.now.d1.now c.args.units.now.d2.now c.args.units.now.ends.now) c.if-units-gt-UNIT_LIMIT.true

pub returns-then-units-gt-UNIT_LIMIT-2 : goal.returns-then-units-gt-UNIT_LIMIT-2
returns-then-units-gt-UNIT_LIMIT-2 c = elim c.then-units-gt-UNIT_LIMIT-2.branch [
  | then-units-gt-UNIT_LIMIT-2-via-then-units-gt-UNIT_LIMIT-2 w ↦ λ k. d2-long (input k c.args.version c.args.units.now.d1.now c.args.units.now.d2.now c.args.units.now.ends.now) c.if-units-gt-UNIT_LIMIT.false w.if-units-gt-UNIT_LIMIT-2.true
  | then-units-gt-UNIT_LIMIT-2-via-else-units-gt-UNIT_LIMIT-2+then-units-gt-STRING_LIMIT w ↦ λ k. strings-many (input k c.args.version c.args.units.now.d1.now c.args.units.now.d2.now c.args.units.now.ends.now) c.if-units-gt-UNIT_LIMIT.false w.if-units-gt-UNIT_LIMIT-2.false w.if-units-gt-STRING_LIMIT.true
]

pub returns-then-not-ends_fit : goal.returns-then-not-ends_fit
returns-then-not-ends_fit c = λ k. ends-unfit (input k c.args.version c.args.units.now.d1.now c.args.units.now.d2.now c.args.units.now.ends.now) c.if-units-gt-UNIT_LIMIT.false c.if-units-gt-UNIT_LIMIT-2.false c.if-units-gt-STRING_LIMIT.false (c.ends_fit.ensures ∙ c.if-not-ends_fit.true)

pub returns-then-version-gt-SUPPORTED_MAJOR : goal.returns-then-version-gt-SUPPORTED_MAJOR
returns-then-version-gt-SUPPORTED_MAJOR c = λ k. version-newer (input k c.args.version c.args.units.now.d1.now c.args.units.now.d2.now c.args.units.now.ends.now) c.if-units-gt-UNIT_LIMIT.false c.if-units-gt-UNIT_LIMIT-2.false c.if-units-gt-STRING_LIMIT.false (c.ends_fit.ensures ∙ c.if-not-ends_fit.false) (major-read c.args.version true (search rules) c.if-version-gt-SUPPORTED_MAJOR.true)

pub returns : goal.returns
returns c = λ k. no_fault (input k c.args.version c.args.units.now.d1.now c.args.units.now.d2.now c.args.units.now.ends.now) c.if-units-gt-UNIT_LIMIT.false c.if-units-gt-UNIT_LIMIT-2.false c.if-units-gt-STRING_LIMIT.false (c.ends_fit.ensures ∙ c.if-not-ends_fit.false) (major-read c.args.version false (search rules) c.if-version-gt-SUPPORTED_MAJOR.false)
