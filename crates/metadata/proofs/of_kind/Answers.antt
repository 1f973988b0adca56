use mathlib.Core.Path.{sym, ◌∙◌}
use Rattle.metadata.proofs.ReadLaws.{kind-alone, kind-carries}
use Rattle.metadata.proofs.of_kind.Goals as goal

pub returns-then-not-carries_declarations-clause-written : goal.returns-then-not-carries_declarations-clause-written
returns-then-not-carries_declarations-clause-written c = kind-alone c.args.asked c.args.units.now.d1.now c.args.units.now.d2.now c.args.units.now.ends.now c.alone.result c.args.areas.now.sheet.now c.alone.new.areas.sheet.now c.args.areas.now.text.now c.alone.new.areas.text.now (sym c.carries_declarations.ensures ∙ c.if-not-carries_declarations.true) c.alone.ensures.written

pub returns-clause-written : goal.returns-clause-written
returns-clause-written c = kind-carries c.args.asked c.args.units.now.d1.now c.args.units.now.d2.now c.args.units.now.ends.now c.in_frame.result c.args.areas.now.sheet.now c.in_frame.new.areas.sheet.now c.args.areas.now.text.now c.in_frame.new.areas.text.now (sym c.carries_declarations.ensures ∙ c.if-not-carries_declarations.false) c.in_frame.ensures.written
