use mathlib.Core.Path.{refl}
use Rattle.passes.proofs.TaskLaws.{lists_none}
use Rattle.passes.proofs.without_lists.Goals as goal

pub returns : goal.returns
returns c = (refl, lists_none c.start-begin.ensures)
