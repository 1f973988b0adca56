use mathlib.Core.Path.{ap, ◌∙◌}
use mathlib.Core.List.{List}
use Prim.Native.Nat.{ℕ}
use native.Mathlib.Omega.{arith}
use lib.ListN.{drop}
use lib.Seq.{sets}
use Rattle.encoding.proofs.EncodingLaws.{none_after}
use Rattle.std.proofs.lemmas.Result.{err_from_is_err_and}
use Rattle.converter.specs.Conversions.{old_units, new_fault, new_to_old}
use Rattle.converter.proofs.CaseLaws.{new_ready_lem}
use Rattle.converter.proofs.ConversionLaws.{check_none, refused_told, short-told, placed-told, after_marker_lem, after-length, length_old}
use Rattle.converter.proofs.new_to_old.Goals as goal

pub returns-in_err-new_fault : goal.returns-in_err-new_fault
unfolding new_to_old
returns-in_err-new_fault c =
    let p = err_from_is_err_and c.from_residual.result c.from_residual.ensures.1 in
    rw (p.1, p.2)
    (refused_told c.args.units.now (old_units (drop 1 c.args.d1.now)) (new_fault c.args.d1.now) c.new_fault.ensures c.in_err-new_fault.was)

pub slice_bounds-bytes-count : goal.slice_bounds-bytes-count
slice_bounds-bytes-count c = omega (arith, (new_ready_lem c.args.d1.now (check_none _ _ c.new_fault.ensures c.in_ok-new_fault.was)).there)

pub slice_bounds-bytes-start : goal.slice_bounds-bytes-start
slice_bounds-bytes-start c = omega (arith, (new_ready_lem c.args.d1.now (check_none _ _ c.new_fault.ensures c.in_ok-new_fault.was)).there)

pub overflow_mul-length : goal.overflow_mul-length
overflow_mul-length c = record { fits = omega (arith, after-length c.args.d1.now, (new_ready_lem c.args.d1.now (check_none _ _ c.new_fault.ensures c.in_ok-new_fault.was)).within) }

pub overflow_add-length : goal.overflow_add-length
overflow_add-length c = record { fits = omega (arith, after-length c.args.d1.now, (new_ready_lem c.args.d1.now (check_none _ _ c.new_fault.ensures c.in_ok-new_fault.was)).within) }

pub returns-then-units-length : goal.returns-then-units-length
unfolding new_to_old
returns-then-units-length c =
    short-told c.args.units.now (old_units (drop 1 c.args.d1.now)) (check_none _ _ c.new_fault.ensures c.in_ok-new_fault.was) _ (length_old c.args.d1.now) c.if-units-length.true

pub pack-requires : goal.pack-requires
pack-requires c =
    let d1 = c.args.d1.now in
    let r = new_ready_lem d1 (check_none _ _ c.new_fault.ensures c.in_ok-new_fault.was) in
    (none_after d1 r.bytes, omega (arith, after-length d1, r.within))

pub returns : goal.returns
unfolding new_to_old
returns c =
    let d1 = c.args.d1.now in
    placed-told c.args.units.now (old_units (drop 1 d1)) (check_none _ _ c.new_fault.ensures c.in_ok-new_fault.was) _ (length_old d1) c.pack.new.units c.if-units-length.false
    (c.pack.ensures ∙ ap (λ (bs : List ℕ). sets c.args.units.now 0 (old_units bs)) (after_marker_lem d1))
