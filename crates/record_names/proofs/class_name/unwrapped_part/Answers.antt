use mathlib.Core.Path.{◌∙◌, sym}
use native.Mathlib.Omega.{arith}
use Rattle.record_names.proofs.EndsLaws.{next-inside, place_inside}
use Rattle.record_names.proofs.UnwrapLaws.{unwrap-empty, unwrap-other, unwrap-single, unwrap-open, unwrap-closed}
use Rattle.record_names.proofs.class_name.unwrapped_part.Goals as goal

pub returns-in_err-first : goal.returns-in_err-first
returns-in_err-first c = rw c.from_residual.ensures (unwrap-empty c.args.s.now c.args.from c.args.to (sym c.utf8_at.ensures ∙ c.in_err-first.was))

pub returns-then-instead-ne76 : goal.returns-then-instead-ne76
returns-then-instead-ne76 c = unwrap-other c.args.s.now c.args.from c.args.to (sym c.utf8_at.ensures ∙ c.in_ok-first.was) c.instead.ensures c.if-instead-ne76.true

pub slice_bounds-last_of-count : goal.slice_bounds-last_of-count
slice_bounds-last_of-count c = next-inside c.args.s.now (sym c.utf8_at.ensures ∙ c.in_ok-first.was)

pub slice_bounds-last_of-start : goal.slice_bounds-last_of-start
slice_bounds-last_of-start c = let h = next-inside c.args.s.now (sym c.utf8_at.ensures ∙ c.in_ok-first.was) in omega arith

pub returns-in_err-last : goal.returns-in_err-last
returns-in_err-last c = rw c.from_residual-in_err-last.ensures (unwrap-single c.args.s.now c.args.from c.args.to (sym c.utf8_at.ensures ∙ c.in_ok-first.was) c.instead.ensures c.last_of.result c.last_of.ensures c.in_err-last.was)

pub returns-then-instead-ne59 : goal.returns-then-instead-ne59
returns-then-instead-ne59 c = unwrap-open c.args.s.now c.args.from c.args.to (sym c.utf8_at.ensures ∙ c.in_ok-first.was) c.instead.ensures c.last_of.result c.last_of.ensures c.in_ok-last.was c.instead-2.ensures c.if-instead-ne59.true

pub overflow_add-result : goal.overflow_add-result
overflow_add-result c = let h = place_inside c.args.s.now (sym c.utf8_at.ensures ∙ c.in_ok-first.was) c.last_of.result c.last_of.ensures c.in_ok-last.was in omega arith

pub returns : goal.returns
returns c = unwrap-closed c.args.s.now c.args.from c.args.to (sym c.utf8_at.ensures ∙ c.in_ok-first.was) c.instead.ensures c.last_of.result c.last_of.ensures c.in_ok-last.was c.instead-2.ensures c.if-instead-ne76.false c.if-instead-ne59.false
