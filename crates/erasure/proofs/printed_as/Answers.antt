use Rattle.erasure.specs.declared.Position.TheVariants.{Parameter, Element, Return}
use Rattle.erasure.proofs.PartLaws.{prints-box, prints-letter, prints-letters, prints-array, prints-unit, prints-nothing, prints-class, prints-itself}
use Rattle.erasure.proofs.printed_as.Goals as goal

pub returns-then-is_boxed : goal.returns-then-is_boxed
returns-then-is_boxed c = prints-box c.args.position c.args.nullable c.in-Primitive.is c.is_boxed.ensures c.if-is_boxed.true

pub returns-else-is_boxed : goal.returns-else-is_boxed
returns-else-is_boxed c = prints-letter c.args.position c.args.nullable c.in-Primitive.is c.is_boxed.ensures c.if-is_boxed.false

pub returns-in-PrimitiveArray : goal.returns-in-PrimitiveArray
returns-in-PrimitiveArray c = prints-letters c.args.position c.args.nullable c.in-PrimitiveArray.is

pub returns-in-Array : goal.returns-in-Array
returns-in-Array c = prints-array c.args.position c.args.nullable c.in-Array.is

pub returns-in-Parameter : goal.returns-in-Parameter
returns-in-Parameter c = prints-unit c.args.position c.args.nullable Parameter c.in-Unit.is c.in-Parameter.is

pub returns-in-Element : goal.returns-in-Element
returns-in-Element c = prints-unit c.args.position c.args.nullable Element c.in-Unit.is c.in-Element.is

pub returns-in-Return : goal.returns-in-Return
returns-in-Return c = prints-unit c.args.position c.args.nullable Return c.in-Unit.is c.in-Return.is

pub returns-in-Nothing : goal.returns-in-Nothing
returns-in-Nothing c = prints-nothing c.args.position c.args.nullable c.in-Nothing.is

pub returns-in-Class : goal.returns-in-Class
returns-in-Class c = prints-class c.args.position c.args.nullable c.in-Class.is

pub returns-in-Other : goal.returns-in-Other
returns-in-Other c = prints-itself c.args.position c.args.nullable c.in-Other.is
