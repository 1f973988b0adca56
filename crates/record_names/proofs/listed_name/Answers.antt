use Rattle.record_names.proofs.ShortLaws.{listed-named}
use Rattle.record_names.proofs.listed_name.Goals as goal

pub returns : goal.returns
returns c = rw c.plain.ensures (listed-named c.predefined.ensures c.in_ok-predefined.was)
