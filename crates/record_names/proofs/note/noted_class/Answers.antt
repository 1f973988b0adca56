use mathlib.Core.Path.{sym, ◌∙◌}
use Rattle.record_names.proofs.WordLaws.{class-none, class-absent-too, class-some}
use Rattle.record_names.proofs.note.noted_class.Goals as goal

pub returns-in_err-name : goal.returns-in_err-name
returns-in_err-name c = rw c.from_residual.ensures (class-none c.args.words.place c.args.words.steps (sym c.noted.ensures ∙ c.in_err-name.was))

pub returns-in_default : goal.returns-in_default
returns-in_default c = class-absent-too c.args.words.place c.args.words.steps (sym c.noted.ensures ∙ c.in_ok-name.was) c.in_default.is

pub returns : goal.returns
returns c = rw (c.class_of.ensures, c.noted_part-part.ensures) (class-some c.args.words.place c.args.words.steps (sym c.noted.ensures ∙ c.in_ok-name.was) c.in-Some.is)
