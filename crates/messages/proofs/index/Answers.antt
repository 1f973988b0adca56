use mathlib.Core.Path.{◌∙◌, sym}
use Rattle.messages.proofs.FindLaws.{index_is}
use Rattle.messages.proofs.index.Goals as goal

pub returns : goal.returns
returns c = λ m w. index_is c.args.s.base c.args.s.bytes.now c.args.number m w _ c.find.ensures ∙ sym c.index_in.ensures
