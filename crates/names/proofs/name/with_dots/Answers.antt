use Rattle.names.proofs.name.with_dots.Goals as goal

pub returns-then-dots : goal.returns-then-dots
returns-then-dots c = rw (c.if-dots.true, c.instead-then-dots.ensures, c.instead.ensures)
