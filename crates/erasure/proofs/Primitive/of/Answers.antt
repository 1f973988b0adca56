use Rattle.erasure.specs.told.ErasureTold.{primitive_at}
use Rattle.erasure.proofs.PartLaws.{primitive-last}
use mathlib.Core.Path.{sym}
use native.Mathlib.Omega.{arith}
use Rattle.erasure.proofs.Primitive.of.Goals as goal

pub returns-in-0 : goal.returns-in-0
unfolding primitive_at
returns-in-0 c = rw c.in-0.is

pub returns-in-1 : goal.returns-in-1
unfolding primitive_at
returns-in-1 c = rw c.in-1.is

pub returns-in-2 : goal.returns-in-2
unfolding primitive_at
returns-in-2 c = rw c.in-2.is

pub returns-in-3 : goal.returns-in-3
unfolding primitive_at
returns-in-3 c = rw c.in-3.is

pub returns-in-4 : goal.returns-in-4
unfolding primitive_at
returns-in-4 c = rw c.in-4.is

pub returns-in-5 : goal.returns-in-5
unfolding primitive_at
returns-in-5 c = rw c.in-5.is

pub returns-in-6 : goal.returns-in-6
unfolding primitive_at
returns-in-6 c = rw c.in-6.is

pub returns-in_default : goal.returns-in_default
unfolding primitive_at
returns-in_default c = sym (primitive-last c.args.number (omega arith))
