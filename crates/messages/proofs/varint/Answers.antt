use mathlib.Core.Path.{◌∙◌, ap, sym}
use Rattle.messages.specs.told.Asked.{number_told}
use Rattle.messages.proofs.FindLaws.{number_is}
use Rattle.messages.proofs.varint.Goals as goal

pub returns : goal.returns
returns c = λ m w. number_is c.args.s.base c.args.s.bytes.now c.args.number m w _ c.find.ensures ∙ ap number_told (sym c.number_in.ensures)
