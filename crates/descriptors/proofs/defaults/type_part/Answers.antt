use Rattle.schema.specs.told.SchemaTold.{lent}
use Rattle.descriptors.proofs.DefaultLaws.{type-there}
use Rattle.descriptors.proofs.defaults.type_part.Goals as goal

pub returns : goal.returns
returns c = type-there (lent c.args.context.now) c.args.at c.args.position c.declared_place.ensures c.in_ok-found.was c.put_erased.ensures
