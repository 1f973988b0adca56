use Rattle.schema.proofs.FoundLaws.{declared-found}
use Rattle.schema.proofs.places.declared_place.Goals as goal

pub returns : goal.returns
returns c = declared-found c.type_place.ensures
