use Rattle.names.specs.told.Stream.{changed}
use Rattle.names.proofs.name.character_of.Goals as goal

pub returns : goal.returns
unfolding changed
returns c = rw (c.with_slashes.ensures, c.with_dots.ensures, c.with_dollars-d.ensures, c.instead-c.ensures)
