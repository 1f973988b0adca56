use mathlib.Core.Path.{subst}
use Rattle.messages.specs.told.Asked.{FoundTold}
use Rattle.names.proofs.RecordLaws.{two_none}
use Rattle.names.proofs.records.two_in.Goals as goal

pub returns-in-None : goal.returns-in-None
returns-in-None c =
    let a = c.args in
    λ t m w. two_none a.message.base a.message.bytes.now a.number m w (subst (FoundTold a.message.base a.message.bytes.now a.number) c.in-None.is t)
