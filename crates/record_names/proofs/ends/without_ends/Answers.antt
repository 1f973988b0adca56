use mathlib.Core.Path.{◌∙◌, sym}
use native.Mathlib.Omega.{arith}
use Rattle.record_names.proofs.EndsLaws.{ends-none, next-inside, ends-single, place_inside, ends-between}
use Rattle.record_names.proofs.ends.without_ends.Goals as goal

pub returns-in_err-first : goal.returns-in_err-first
returns-in_err-first c = rw c.from_residual.ensures (ends-none c.args.s.now (sym c.utf8_at.ensures ∙ c.in_err-first.was))

pub slice_bounds-last_of-count : goal.slice_bounds-last_of-count
slice_bounds-last_of-count c = next-inside c.args.s.now (sym c.utf8_at.ensures ∙ c.in_ok-first.was)

pub slice_bounds-last_of-start : goal.slice_bounds-last_of-start
slice_bounds-last_of-start c = let h = next-inside c.args.s.now (sym c.utf8_at.ensures ∙ c.in_ok-first.was) in omega arith

pub returns-in_err-last : goal.returns-in_err-last
returns-in_err-last c = rw c.from_residual-in_err-last.ensures (ends-single c.args.s.now (sym c.utf8_at.ensures ∙ c.in_ok-first.was) c.last_of.result c.last_of.ensures c.in_err-last.was)

pub overflow_add-result : goal.overflow_add-result
overflow_add-result c = let h = place_inside c.args.s.now (sym c.utf8_at.ensures ∙ c.in_ok-first.was) c.last_of.result c.last_of.ensures c.in_ok-last.was in omega arith

pub returns : goal.returns
returns c = ends-between c.args.s.now (sym c.utf8_at.ensures ∙ c.in_ok-first.was) c.last_of.result c.last_of.ensures c.in_ok-last.was
