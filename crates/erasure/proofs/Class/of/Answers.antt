use mathlib.Core.Path.{sym}
use native.Mathlib.Omega.{arith}
use Rattle.erasure.specs.told.ErasureTold.{class_at}
use Rattle.erasure.proofs.PartLaws.{class-last, box-class}
use Rattle.erasure.proofs.Class.of.Goals as goal

pub returns-in-0-to-7 : goal.returns-in-0-to-7
returns-in-0-to-7 c = box-class c.args.number _ (omega arith) c.of.ensures

pub returns-in-8 : goal.returns-in-8
unfolding class_at
returns-in-8 c = rw c.in-8.is

pub returns-in-9 : goal.returns-in-9
unfolding class_at
returns-in-9 c = rw c.in-9.is

pub returns-in-10 : goal.returns-in-10
unfolding class_at
returns-in-10 c = rw c.in-10.is

pub returns-in-11 : goal.returns-in-11
unfolding class_at
returns-in-11 c = rw c.in-11.is

pub returns-in-12 : goal.returns-in-12
unfolding class_at
returns-in-12 c = rw c.in-12.is

pub returns-in-13 : goal.returns-in-13
unfolding class_at
returns-in-13 c = rw c.in-13.is

pub returns-in-14 : goal.returns-in-14
unfolding class_at
returns-in-14 c = rw c.in-14.is

pub returns-in-15 : goal.returns-in-15
unfolding class_at
returns-in-15 c = rw c.in-15.is

pub returns-in-16 : goal.returns-in-16
unfolding class_at
returns-in-16 c = rw c.in-16.is

pub returns-in-17 : goal.returns-in-17
unfolding class_at
returns-in-17 c = rw c.in-17.is

pub returns-in-18 : goal.returns-in-18
unfolding class_at
returns-in-18 c = rw c.in-18.is

pub returns-in-19 : goal.returns-in-19
unfolding class_at
returns-in-19 c = rw c.in-19.is

pub returns-in-20 : goal.returns-in-20
unfolding class_at
returns-in-20 c = rw c.in-20.is

pub returns-in-21 : goal.returns-in-21
unfolding class_at
returns-in-21 c = rw c.in-21.is

pub returns-in_default : goal.returns-in_default
unfolding class_at
returns-in_default c = sym (class-last c.args.number (omega arith))
