use mathlib.Core.Path.{sym, ◌∙◌}
use Rattle.string_marks.proofs.ReadingLaws.{head-class, head-package}
use Rattle.string_marks.proofs.body.mark_head.Goals as goal

pub returns-then-is_class : goal.returns-then-is_class
returns-then-is_class c = rw (sym c.is_class.ensures ∙ c.if-is_class.true) (head-class c.mark_name.ensures)

pub returns-else-is_class : goal.returns-else-is_class
returns-else-is_class c = rw (sym c.is_class.ensures ∙ c.if-is_class.false) (head-package c.args.used.now)
