use Rattle.type_references.proofs.TwinLaws.{itself-told}
use Rattle.type_references.proofs.type_in_area.Goals as goal

pub returns-clause-written : goal.returns-clause-written
returns-clause-written g c = itself-told c.parse_at.ensures.written
