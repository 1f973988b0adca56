use native.Mathlib.Omega.{arith}
use Rattle.record_names.proofs.PartLaws.{sub-backward, sub-outside, sub-start, sub-past, sub-end, sub_is}
use Rattle.record_names.proofs.steps.substring.Goals as goal

pub returns-then-last-first : goal.returns-then-last-first
returns-then-last-first c = sub-backward c.args.s.now c.args.first c.args.last c.if-last-first.true

pub returns-in_err-start : goal.returns-in_err-start
returns-in_err-start c = rw c.from_residual.ensures (sub-outside c.args.s.now c.args.first c.args.last c.if-last-first.false c.find_place.ensures c.in_err-start.was)

pub slice_bounds-find_place-count : goal.slice_bounds-find_place-count
slice_bounds-find_place-count c = sub-start c.args.s.now c.args.first c.args.last c.if-last-first.false c.find_place.ensures c.in_ok-start.was

pub slice_bounds-find_place-start : goal.slice_bounds-find_place-start
slice_bounds-find_place-start c = let h = sub-start c.args.s.now c.args.first c.args.last c.if-last-first.false c.find_place.ensures c.in_ok-start.was in omega arith

pub returns-in_err-size : goal.returns-in_err-size
returns-in_err-size c = rw c.from_residual-in_err-size.ensures (sub-past c.args.s.now c.args.first c.args.last c.if-last-first.false c.find_place.ensures c.in_ok-start.was c.find_place-2.ensures c.in_err-size.was)

pub overflow_add-result : goal.overflow_add-result
overflow_add-result c = let h = sub-end c.args.s.now c.args.first c.args.last c.if-last-first.false c.find_place.ensures c.in_ok-start.was c.find_place-2.ensures c.in_ok-size.was in omega arith

pub returns : goal.returns
returns c = sub_is c.args.s.now c.args.first c.args.last c.if-last-first.false c.find_place.ensures c.in_ok-start.was c.find_place-2.ensures c.in_ok-size.was
