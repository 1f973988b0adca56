use Rattle.std.proofs.Common.{rules}
use mathlib.Core.Path.{ap, sym, ◌∙◌}
use Rattle.messages.specs.told.Asked.{number_told}
use Rattle.schema.proofs.HeadLaws.{flag-tested}
use Rattle.schema.proofs.head.is_set.Goals as goal

pub returns : goal.returns
returns c = λ k m t. flag-tested k m c.varint.result _ (t ∙ ap number_told (sym c.varint.ensures)) c.is_some_and.ensures (λ v p. search rules)
