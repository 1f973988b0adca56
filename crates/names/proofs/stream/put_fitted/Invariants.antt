use mathlib.Core.List.{map}
use lib.ListN.{drop}
use Rattle.names.specs.told.Stream.{changed}
use Rattle.names.proofs.FittedLaws.{Fitting}
use Rattle.names.proofs.stream.put_fitted.Given as goal

abbrev pub invariant-loop-left : goal.invariant-loop-left
invariant-loop-left g l =
    let e = g.E.Encoded in
    Fitting (map (changed l.change) (e.decoded (e.units l.text))) (map (changed l.change) (e.decoded (drop l.i (e.units l.text)))) l.size l.at l.to l.left l.initial.area l.area

abbrev pub decreases-loop-left : goal.decreases-loop-left
decreases-loop-left g l = l.left
