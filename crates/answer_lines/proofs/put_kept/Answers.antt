use mathlib.Core.Path.{refl}
use Prim.Native.Nat.{◌+◌, ◌*◌}
use native.Mathlib.Omega.{arith}
use Rattle.line.specs.Input.{d1_place, d2_place, ends_place}
use Rattle.answer_lines.proofs.AnswerLaws.{numbers_kept, stored_length, wrote_kept, zeros-length}
use Rattle.answer_lines.proofs.put_kept.Goals as goal

pub slice_bounds-put_read-end : goal.slice_bounds-put_read-end
slice_bounds-put_read-end c = stored_length 2 c.args.kept.now 20 _ _ _ _ c.units_at-d1_count.ensures.0 c.units_at-d1_count.ensures.1

pub slice_bounds-put_read-end-2 : goal.slice_bounds-put_read-end-2
slice_bounds-put_read-end-2 c =
    let a = c.args in
    stored_length 2 a.kept.now (24 + 2 * a.counts.d1) _ _ _ _ c.units_at-d2_count.ensures.0 c.units_at-d2_count.ensures.1

pub slice_bounds-put_read-end-3 : goal.slice_bounds-put_read-end-3
slice_bounds-put_read-end-3 c =
    let a = c.args in
    stored_length 4 a.kept.now (24 + 2 * a.counts.d1 + 4 + 2 * a.counts.d2) _ _ _ _ c.ends_at-ends_count.ensures.0 c.ends_at-ends_count.ensures.1

pub returns : goal.returns
returns c =
    let a = c.args in
    let k = a.kept.now in
    let n = a.counts in
    wrote_kept k n
    (numbers_kept 2 k 20 (d1_place + 4) n.d1 32769 _ _ _ refl (zeros-length 32769) c.units_at-d1_count.ensures.0 c.units_at-d1_count.ensures.1)
    (numbers_kept 2 k (24 + 2 * n.d1) (d2_place n.d1 + 4) n.d2 32769 _ _ _ (omega arith) (zeros-length 32769) c.units_at-d2_count.ensures.0 c.units_at-d2_count.ensures.1)
    (numbers_kept 4 k (24 + 2 * n.d1 + 4 + 2 * n.d2) (ends_place n.d1 n.d2 + 4) n.ends 4097 _ _ _ (omega arith) (zeros-length 4097) c.ends_at-ends_count.ensures.0 c.ends_at-ends_count.ensures.1)
    c.put_read.ensures
