use Rattle.names.proofs.WidthLaws.{kept-fits, kept-place, kept-sum}
use Rattle.names.proofs.stream.past_text.Goals as goal

pub size_at_once-requires : goal.size_at_once-requires
size_at_once-requires g c = let a = c.args in let e = g.E.Encoded in kept-fits a.change (c.keeps_width.ensures c.if-keeps_width.true) (e.decoded (e.units a.text)) a.at _ c.requires

pub overflow_add-result : goal.overflow_add-result
overflow_add-result g c = let a = c.args in let e = g.E.Encoded in record { fits = kept-sum a.change (c.keeps_width.ensures c.if-keeps_width.true) (e.decoded (e.units a.text)) a.at _ c.in-Some.ensures c.requires }

pub returns-in-Some : goal.returns-in-Some
returns-in-Some g c = let a = c.args in let e = g.E.Encoded in kept-place a.change (c.keeps_width.ensures c.if-keeps_width.true) (e.decoded (e.units a.text)) a.at c.in-Some.ensures
