-- The units stand inside their areas.
use Rattle.std.proofs.Common.{rules}
use Rattle.vectors.proofs.VectorLaws.{old-inside, new-inside}
use Rattle.vectors.proofs.of_converter.convert.Goals as goal

pub slice_bounds-old-end : goal.slice_bounds-old-end
slice_bounds-old-end c = search (rules, new-inside)

pub slice_bounds-old-end-2 : goal.slice_bounds-old-end-2
slice_bounds-old-end-2 c = search (rules, new-inside)

pub slice_bounds-eq-end : goal.slice_bounds-eq-end
slice_bounds-eq-end c = search (rules, old-inside)

pub slice_bounds-eq-end-in-Ok-old_to_new : goal.slice_bounds-eq-end-in-Ok-old_to_new
slice_bounds-eq-end-in-Ok-old_to_new c = search (rules, old-inside)
