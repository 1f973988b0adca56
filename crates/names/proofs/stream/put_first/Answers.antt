use Rattle.names.proofs.MeasuredLaws.{first-put}
use Rattle.names.proofs.stream.put_first.Goals as goal

pub returns : goal.returns
returns g c = let a = c.args in let e = g.E.Encoded in first-put a.change (e.decoded (e.units a.text)) a.at a.area.now c.past_text-next.ensures c.put_fitted.ensures
