use mathlib.Core.Path.{ap, refl, ◌∙◌}
use Rattle.names.specs.Names.{Names, qualified_name}
use Rattle.schema.specs.Reading.{class_name_in}
use Rattle.schema.proofs.EntryLaws.{names-are, looked-none, looked-up}
use Rattle.schema.proofs.name.class_name_at.Goals as goal

pub returns-in_err-found : goal.returns-in_err-found
unfolding class_name_in
returns-in_err-found c = rw c.from_residual.ensures λ s o k m e l. looked-none (qualified_name s.names) e l c.in_err-found.was refl

pub returns : goal.returns
unfolding class_name_in
returns c = λ s o k m e l. looked-up (qualified_name s.names) e l c.in_ok-found.was (ap (λ (n : Names). qualified_name n c.in_ok-found.field-0) (names-are o) ∙ c.qualified_name.ensures s.names.records o.fit o.sizes o.records)
