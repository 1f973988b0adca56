use mathlib.Core.Path.{ap, refl, ◌∙◌}
use Rattle.names.specs.Names.{Names, string}
use Rattle.schema.specs.Reading.{name_in}
use Rattle.schema.proofs.EntryLaws.{names-are, looked-none, looked-up}
use Rattle.schema.proofs.name.name_in.Goals as goal

pub returns-in_err-index : goal.returns-in_err-index
unfolding name_in
returns-in_err-index c = rw c.from_residual.ensures λ units s o m k l. looked-none (string s.names) (c.index.ensures m k) l c.in_err-index.was refl

pub returns : goal.returns
unfolding name_in
returns c = λ units s o m k l. looked-up (string s.names) (c.index.ensures m k) l c.in_ok-index.was (ap (λ (n : Names). string n c.in_ok-index.field-0) (names-are o) ∙ c.string.ensures units s.names.records o.fit o.sizes o.records)
