use mathlib.Core.Path.{◌≡◌}
use mathlib.Core.Bool.{false}
use lib.ListN.{drop}
use Rattle.std.specs.Prelude.{if◌then◌else◌}
use Rattle.names.specs.Names.{ends_fit}
use Rattle.inputs.proofs.ends_fit.Given as goal

abbrev pub invariant-loop-end : goal.invariant-loop-end
invariant-loop-end l = ends_fit 0 l.ends l.count ≡ (if l.falls then false else ends_fit l.at (drop l.end-index l.ends) l.count)
