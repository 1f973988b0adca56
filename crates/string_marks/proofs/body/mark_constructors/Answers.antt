use mathlib.Core.Path.{sym, ◌∙◌}
use Rattle.string_marks.proofs.ReadingLaws.{no-constructors}
use Rattle.string_marks.proofs.body.mark_constructors.Goals as goal

pub returns-then-is_class : goal.returns-then-is_class
returns-then-is_class c = rw (sym c.is_class.ensures ∙ c.if-is_class.true) c.mark_members.ensures

pub returns-else-is_class : goal.returns-else-is_class
returns-else-is_class c = rw (sym c.is_class.ensures ∙ c.if-is_class.false) (no-constructors c.args.used.now)
