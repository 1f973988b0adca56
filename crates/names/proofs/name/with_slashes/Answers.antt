use Rattle.names.proofs.name.with_slashes.Goals as goal

pub returns-then-slashes : goal.returns-then-slashes
returns-then-slashes c = rw (c.if-slashes.true, c.instead.ensures)
