use Rattle.names.proofs.ListLaws.{listed-part, listed-past}
use Rattle.names.proofs.name.predefined.Goals as goal

pub returns-then-index-ge44 : goal.returns-then-index-ge44
returns-then-index-ge44 c = listed-past _ c.if-index-ge44.true

pub returns : goal.returns
returns c = rw (← c.wide-i.ensures) (listed-part _ (rw c.wide-i.ensures c.if-index-ge44.false) c.from.ensures c.from-2.ensures)
