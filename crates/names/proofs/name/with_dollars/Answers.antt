use Rattle.names.proofs.name.with_dollars.Goals as goal

pub returns-then-dollars : goal.returns-then-dollars
returns-then-dollars c = rw (c.if-dollars.true, c.instead.ensures)
