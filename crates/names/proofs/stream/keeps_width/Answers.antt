use Rattle.names.proofs.WidthLaws.{keeps}
use Rattle.names.proofs.stream.keeps_width.Goals as goal

pub returns : goal.returns
returns c = λ e. keeps c.args.change c.width_of.ensures c.width_of-2.ensures e
