use Rattle.schema.proofs.FoundLaws.{found-moved}
use Rattle.schema.proofs.places.inline_place.Goals as goal

pub returns : goal.returns
returns c = found-moved c.args.base c.args.body.start c.args.body.end c.moved.ensures
