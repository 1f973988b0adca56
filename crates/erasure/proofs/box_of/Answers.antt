use Rattle.characters.specs.Characters.{utf8, utf8_of}
use Rattle.erasure.specs.Erasure.{print}
use Rattle.erasure.proofs.box_of.Goals as goal

pub returns-in-Boolean : goal.returns-in-Boolean
unfolding print utf8 utf8_of
returns-in-Boolean c = rw c.in-Boolean.is

pub returns-in-Byte : goal.returns-in-Byte
unfolding print utf8 utf8_of
returns-in-Byte c = rw c.in-Byte.is

pub returns-in-Char : goal.returns-in-Char
unfolding print utf8 utf8_of
returns-in-Char c = rw c.in-Char.is

pub returns-in-Short : goal.returns-in-Short
unfolding print utf8 utf8_of
returns-in-Short c = rw c.in-Short.is

pub returns-in-Int : goal.returns-in-Int
unfolding print utf8 utf8_of
returns-in-Int c = rw c.in-Int.is

pub returns-in-Long : goal.returns-in-Long
unfolding print utf8 utf8_of
returns-in-Long c = rw c.in-Long.is

pub returns-in-Float : goal.returns-in-Float
unfolding print utf8 utf8_of
returns-in-Float c = rw c.in-Float.is

pub returns-in-Double : goal.returns-in-Double
unfolding print utf8 utf8_of
returns-in-Double c = rw c.in-Double.is
