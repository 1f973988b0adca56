use mathlib.Core.Path.{sym}
use Prim.Native.Nat.{ℕ, ◌<◌}
use lib.ListN.{get_or}
use lib.Seq.{length-take-le}
use Rattle.answer_lines.proofs.AnswerLaws.{sizes_inside, part-short, wrote_read, wrote_refused, zeros-are, signed-handed, version-handed}
use Rattle.answer_lines.proofs.put_read.Goals as goal

pub slice_bounds-sheet-end : goal.slice_bounds-sheet-end
slice_bounds-sheet-end c = (sizes_inside _ _ _ _ c.read.ensures.0 c.in-Ok.is).sheet_in

pub slice_bounds-text-end : goal.slice_bounds-text-end
slice_bounds-text-end c = (sizes_inside _ _ _ _ c.read.ensures.0 c.in-Ok.is).text_in

pub slice_bounds-put_line-end : goal.slice_bounds-put_line-end
slice_bounds-put_line-end c = sym (length-take-le _ _ (sizes_inside _ _ _ _ c.read.ensures.0 c.in-Ok.is).sheet_in)

pub slice_bounds-put_line-end-in-Ok : goal.slice_bounds-put_line-end-in-Ok
slice_bounds-put_line-end-in-Ok c = sym (length-take-le _ _ (sizes_inside _ _ _ _ c.read.ensures.0 c.in-Ok.is).text_in)

pub put_line-requires : goal.put_line-requires
put_line-requires c =
    let h = sizes_inside _ _ _ _ c.read.ensures.0 c.in-Ok.is in
    (part-short c.in-Ok.sizes.sheet c.read.new.sheet h.sheet_in c.read.auto.sheet, part-short c.in-Ok.sizes.text c.read.new.text h.text_in c.read.auto.text)

pub returns-in-Ok : goal.returns-in-Ok
returns-in-Ok c =
    let a = c.args in
    let bytes : (i : ℕ) → get_or a.kept.now i 0 < 256 = λ i. (c.type_inv.kept i).fits in
    wrote_read a.kept.now a.d1.now a.d2.now a.ends.now c.read.new.sheet c.read.new.text c.read.ensures.0 (signed-handed a.kept.now bytes 0 c.signed_at-k.ensures)
    (version-handed a.kept.now bytes c.signed_at.ensures c.signed_at-2.ensures c.signed_at-3.ensures) zeros-are zeros-are c.in-Ok.is c.put_line.ensures

pub returns-in-Err : goal.returns-in-Err
returns-in-Err c =
    let a = c.args in
    let bytes : (i : ℕ) → get_or a.kept.now i 0 < 256 = λ i. (c.type_inv.kept i).fits in
    wrote_refused a.kept.now a.d1.now a.d2.now a.ends.now c.read.new.sheet c.read.new.text c.read.ensures.0 (signed-handed a.kept.now bytes 0 c.signed_at-k.ensures)
    (version-handed a.kept.now bytes c.signed_at.ensures c.signed_at-2.ensures c.signed_at-3.ensures) zeros-are zeros-are c.in-Err.is c.numbered-number.ensures c.put_line-in-Err.ensures
