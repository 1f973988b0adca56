use mathlib.Core.Path.{sym, ◌∙◌}
use borrow.Author.Tests.{eqb-true}
use Rattle.std.proofs.lemmas.Bool.{eqb-false}
use Prim.Native.Nat.{◌-◌}
use native.Mathlib.Omega.{arith}
use lib.ListN.{length}
use Rattle.characters.proofs.SizeLaws.{Measuring, measuring_start, measuring-fits, measuring-next, measuring-there, measuring-end, measuring-whole, measuring_none}
use Rattle.characters.proofs.measure.utf8_size.Goals as goal
use Rattle.characters.proofs.measure.utf8_size.Goals.{else-loop-from-test, then-loop-from-test+else-last-from-gt16384}

pub returns-then-is_empty : goal.returns-then-is_empty
returns-then-is_empty c = measuring_none c.args.units.now (eqb-true _ 0 (sym c.is_empty.ensures ∙ c.if-is_empty.true))

pub loop-from-init : goal.loop-from-init
loop-from-init c = let n = eqb-false (length c.args.units.now) 0 (sym c.is_empty.ensures ∙ c.if-is_empty.false) in measuring_start c.args.units.now (omega (arith, n))

pub overflow_add-size : goal.overflow_add-size
overflow_add-size c = record { fits = measuring-fits (measuring-next c.loop-from.invariant c.min-to.result c.block_size.result (omega arith) c.block_size.ensures c.from-size.ensures) _ c.requires }

pub loop-from-preserved : goal.loop-from-preserved
loop-from-preserved c = measuring-there _ (omega arith) (measuring-next c.loop-from.invariant c.min-to.result c.block_size.result (omega arith) c.block_size.ensures c.from-size.ensures)

-- after the loop all units but the last are counted
at-last : (c : goal.After-row_known-1) → Measuring c.args.units.now (length c.args.units.now - 1) c.loop-from-test.size
at-last c = elim c.loop-from-test.branch [
  | else-loop-from-test w ↦ rw w.size-is (measuring-there _ (omega (arith, w.loop-from-test.false, c.loop-from.invariant.inside)) c.loop-from.invariant)
  | then-loop-from-test+else-last-from-gt16384 w ↦
      rw w.size-is (measuring-there _ (omega arith) (measuring-next c.loop-from.invariant w.min-to.result w.block_size.result (omega arith) w.block_size.ensures w.from-size.ensures))
]

pub overflow_add-result : goal.overflow_add-result
overflow_add-result c = record { fits = measuring-whole (at-last c) c.unit_size.result (omega arith) c.unit_size.ensures c.from.ensures _ c.requires }

pub returns : goal.returns
returns c = measuring-end (at-last c) c.unit_size.result (omega arith) c.unit_size.ensures c.from.ensures
