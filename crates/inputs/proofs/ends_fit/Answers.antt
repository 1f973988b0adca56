use mathlib.Core.Path.{sym, ap, ◌∙◌}
use Prim.Native.Nat.{ℕ}
use lib.Dec.{eqb}
use Rattle.inputs.proofs.InputLaws.{seen-fall, seen_next, seen-over}
use Rattle.inputs.proofs.ends_fit.Goals as goal
use Rattle.inputs.proofs.ends_fit.Goals.{then-end-at, else-end-at}

pub loop-end-preserved : goal.loop-end-preserved
loop-end-preserved c = elim c.if-end-at.branch [
  | then-end-at w ↦ rw (w.at-is, w.falls-is) (seen-fall c.args.ends.now c.args.count c.loop-end.at c.loop-end.end-index c.loop-end.falls c.loop-end-test.true w.if-end-at.true c.loop-end.invariant)
  | else-end-at w ↦ rw (w.at-is, w.falls-is) (seen_next c.args.ends.now c.args.count c.loop-end.at c.loop-end.end-index c.loop-end.falls c.loop-end-test.true w.if-end-at.false c.loop-end.invariant)
]

pub returns-then-not-falls : goal.returns-then-not-falls
returns-then-not-falls c =
    seen-over c.args.ends.now c.args.count c.loop-end.at c.loop-end.end-index c.loop-end.falls c.loop-end-test.false c.if-not-falls.true c.loop-end.invariant ∙ ap (λ (n : ℕ). eqb n c.args.count) (sym c.wide.ensures)
