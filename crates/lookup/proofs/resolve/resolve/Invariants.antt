use mathlib.Core.Path.{◌≡◌}
use lib.ListN.{length}
use Rattle.lookup.proofs.ResolveLaws.{Resolving}
use Rattle.lookup.proofs.resolve.resolve.Given as goal

abbrev pub invariant-loop-at : goal.invariant-loop-at
invariant-loop-at l = (length l.notes ≡ length l.initial.notes) × Resolving l.bytes l.initial.notes l.notes l.at
