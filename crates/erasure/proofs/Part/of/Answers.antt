use mathlib.Core.Path.{sym}
use native.Mathlib.Omega.{arith}
use Rattle.erasure.specs.told.ErasureTold.{fixed_part}
use Rattle.erasure.proofs.PartLaws.{void-part, letter-found, array-found, box-found, class-found}
use Rattle.erasure.proofs.Part.of.Goals as goal

pub returns-in-0-to-7 : goal.returns-in-0-to-7
returns-in-0-to-7 c = letter-found c.args.number _ (omega arith) c.of.ensures

pub returns-in-8-to-15 : goal.returns-in-8-to-15
returns-in-8-to-15 c = array-found c.args.number _ (omega arith) (omega arith) c.of-in-8-to-15.ensures

pub returns-in-16-to-23 : goal.returns-in-16-to-23
returns-in-16-to-23 c = box-found c.args.number _ (omega arith) (omega arith) c.of-in-16-to-23.ensures

pub returns-in-24-to-36 : goal.returns-in-24-to-36
returns-in-24-to-36 c = class-found c.args.number _ (omega arith) (omega arith) c.of-in-24-to-36.ensures

pub returns-in-37 : goal.returns-in-37
unfolding fixed_part
returns-in-37 c = rw c.in-37.is

pub returns-in-38 : goal.returns-in-38
unfolding fixed_part
returns-in-38 c = rw c.in-38.is

pub returns-in_default : goal.returns-in_default
returns-in_default c = sym (void-part c.args.number (omega arith))
