use native.Mathlib.Omega.{arith}
use Rattle.line.proofs.OutputLaws.{decimal-short, part_length, wrote_line}
use Rattle.line.proofs.output.put_line.Goals as goal

pub overflow_add-after_number : goal.overflow_add-after_number
overflow_add-after_number c = omega (arith, c.put_decimal-after_number.ensures.ends, decimal-short c.args.number)

pub put_decimal-after_detail-requires : goal.put_decimal-after_detail-requires
put_decimal-after_detail-requires c = omega (arith, c.put_decimal-after_number.ensures.ends, decimal-short c.args.number)

pub put_part-after_sheet-requires : goal.put_part-after_sheet-requires
put_part-after_sheet-requires c =
    let a = c.args in
    (omega (arith, c.put_decimal-after_number.ensures.ends, c.put_decimal-after_detail.ensures.ends, decimal-short a.number, decimal-short a.detail), omega arith)

pub put_part-after_text-requires : goal.put_part-after_text-requires
put_part-after_text-requires c =
    let a = c.args in
    (omega (arith, c.put_decimal-after_number.ensures.ends, c.put_decimal-after_detail.ensures.ends, c.put_part-after_sheet.ensures.ends, decimal-short a.number, decimal-short a.detail, part_length a.sheet.now), omega arith)

pub overflow_add-result : goal.overflow_add-result
overflow_add-result c =
    let a = c.args in
    omega (arith, c.put_decimal-after_number.ensures.ends, c.put_decimal-after_detail.ensures.ends, c.put_part-after_sheet.ensures.ends, c.put_part-after_text.ensures.ends, decimal-short a.number, decimal-short a.detail, part_length a.sheet.now, part_length a.text.now)

pub returns : goal.returns
returns c = wrote_line c.args.number c.args.detail c.args.sheet.now c.args.text.now c.put_decimal-after_number.ensures c.put.ensures c.put_decimal-after_detail.ensures c.put_part-after_sheet.ensures c.put_part-after_text.ensures c.put-2.ensures
