use mathlib.Core.Path.{ap, sym, ◌∙◌}
use mathlib.Core.List.{List, ◌∷◌}
use Prim.Native.Nat.{ℕ}
use native.Mathlib.Omega.{arith}
use lib.Seq.{sets, length-take-le}
use Rattle.encoding.specs.Encoding.{byte_string_marker, unpacked}
use Rattle.encoding.proofs.EncodingLaws.{length-unpacked}
use Rattle.std.proofs.lemmas.Result.{err_from_is_err_and}
use Rattle.converter.specs.Conversions.{old_fault, old_to_new}
use Rattle.converter.proofs.CaseLaws.{old_ready_lem}
use Rattle.converter.proofs.ConversionLaws.{check_none, refused_told, short-told, placed-told, length_marked, front_bytes}
use Rattle.converter.proofs.old_to_new.Goals as goal

pub returns-in_err-old_fault : goal.returns-in_err-old_fault
unfolding old_to_new
returns-in_err-old_fault c =
    let p = err_from_is_err_and c.from_residual.result c.from_residual.ensures.1 in
    rw (p.1, p.2)
    (refused_told c.args.units.now (byte_string_marker ∷ unpacked c.args.d1.now) (old_fault c.args.d1.now) c.old_fault.ensures c.in_err-old_fault.was)

pub overflow_mul-size : goal.overflow_mul-size
overflow_mul-size c = record { fits = omega (arith, (old_ready_lem c.args.d1.now (check_none _ _ c.old_fault.ensures c.in_ok-old_fault.was)).within) }

pub returns-then-units-length : goal.returns-then-units-length
unfolding old_to_new
returns-then-units-length c =
    short-told c.args.units.now (byte_string_marker ∷ unpacked c.args.d1.now) (check_none _ _ c.old_fault.ensures c.in_ok-old_fault.was) _ (length_marked c.args.d1.now) c.if-units-length.true

pub unpack-requires : goal.unpack-requires
unpack-requires c = omega (arith, (old_ready_lem c.args.d1.now (check_none _ _ c.old_fault.ensures c.in_ok-old_fault.was)).within)

pub slice_bounds-bytes-end : goal.slice_bounds-bytes-end
slice_bounds-bytes-end c = omega (arith, (old_ready_lem c.args.d1.now (check_none _ _ c.old_fault.ensures c.in_ok-old_fault.was)).within)

pub slice_bounds-put_marked-end : goal.slice_bounds-put_marked-end
slice_bounds-put_marked-end c = sym (length-take-le _ c.unpack.new.area (omega (arith, (old_ready_lem c.args.d1.now (check_none _ _ c.old_fault.ensures c.in_ok-old_fault.was)).within)))

pub returns : goal.returns
unfolding old_to_new
returns c =
    let d1 = c.args.d1.now in
    let sound = check_none _ _ c.old_fault.ensures c.in_ok-old_fault.was in
    placed-told c.args.units.now (byte_string_marker ∷ unpacked d1) sound _ (length_marked d1) c.put_marked.new.units c.if-units-length.false
    (c.put_marked.ensures
    ∙ ap (λ (bs : List ℕ). sets c.args.units.now 0 (byte_string_marker ∷ bs))
    (front_bytes (unpacked d1) _ c.unpack.new.area _ c.unpack.ensures (length-unpacked d1) (omega (arith, (old_ready_lem d1 sound).within))))
