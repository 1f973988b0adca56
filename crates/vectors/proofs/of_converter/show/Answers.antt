-- The units stand inside their area.
use Rattle.std.proofs.Common.{rules}
use Rattle.vectors.proofs.VectorLaws.{new-inside}
use Rattle.vectors.proofs.of_converter.show.Goals as goal

pub slice_bounds-write_units-end : goal.slice_bounds-write_units-end
slice_bounds-write_units-end g c = search (rules, new-inside)

pub slice_bounds-write_units-end-in-Ok : goal.slice_bounds-write_units-end-in-Ok
slice_bounds-write_units-end-in-Ok g c = search (rules, new-inside)
