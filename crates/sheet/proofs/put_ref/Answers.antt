use mathlib.Core.Path.{ap, ◌∙◌}
use lib.Seq.{sets}
use Rattle.sheet.proofs.WriteLaws.{ref-number}
use Rattle.sheet.proofs.put_ref.Goals as goal

pub returns : goal.returns
returns c =
    let a = c.args in
    c.put_number.ensures ∙ ap (sets a.area.now a.at) (ref-number a.offset a.size)
