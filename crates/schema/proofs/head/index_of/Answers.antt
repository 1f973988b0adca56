use mathlib.Core.Path.{ap, sym, ◌∙◌}
use mathlib.Core.Option.{Option, none}
use Prim.Native.Nat.{ℕ}
use Rattle.foundation.specs.Choices.{if_some}
use Rattle.wire.specs.Messages.{as32, index}
use Rattle.schema.proofs.head.index_of.Goals as goal

pub returns : goal.returns
unfolding index
returns c = λ k m t. ap (λ (o : Option ℕ). if_some o none as32) t ∙ sym c.index_in.ensures
