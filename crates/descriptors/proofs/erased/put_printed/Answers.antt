use Rattle.schema.specs.told.SchemaTold.{lent}
use Rattle.descriptors.proofs.ErasedLaws.{printed-fixed, printed-array, printed-class}
use Rattle.descriptors.proofs.erased.put_printed.Goals as goal

pub returns-in-Fixed : goal.returns-in-Fixed
returns-in-Fixed c = printed-fixed (lent c.args.context.now) c.args.name c.in-Fixed.is c.put_part.ensures

pub returns-in-ThroughArray : goal.returns-in-ThroughArray
returns-in-ThroughArray c = printed-array (lent c.args.context.now) c.args.name c.in-ThroughArray.is c.put.ensures

pub returns-in-ClassItself : goal.returns-in-ClassItself
returns-in-ClassItself c = printed-class (lent c.args.context.now) c.args.name c.requires.0 c.requires.1 c.in-ClassItself.is c.put_class.ensures
