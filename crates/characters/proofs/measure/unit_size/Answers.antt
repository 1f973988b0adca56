use native.Mathlib.Omega.{arith}
use Rattle.characters.proofs.SizeLaws.{width_one, width_two, width_three, size-paired, size-alone}
use Rattle.characters.proofs.measure.unit_size.Goals as goal

pub returns-then-is_pair : goal.returns-then-is_pair
returns-then-is_pair c = size-paired c.args.unit c.args.next c.is_pair.ensures c.if-is_pair.true

pub returns-then-unit-lt128 : goal.returns-then-unit-lt128
returns-then-unit-lt128 c = size-alone c.args.unit c.args.next c.is_pair.ensures c.if-is_pair.false 1 (omega arith) (width_one _ c.if-unit-lt128.true)

pub returns-then-unit-lt2048 : goal.returns-then-unit-lt2048
returns-then-unit-lt2048 c = size-alone c.args.unit c.args.next c.is_pair.ensures c.if-is_pair.false 2 (omega arith) (width_two _ c.if-unit-lt128.false c.if-unit-lt2048.true)

pub returns : goal.returns
returns c = size-alone c.args.unit c.args.next c.is_pair.ensures c.if-is_pair.false 3 (omega arith) (width_three _ c.if-unit-lt2048.false (omega arith))
