use Rattle.names.proofs.WidthLaws.{bytes-at_once}
use Rattle.names.proofs.encoded.RefSliceU8Encoded.size_at_once.Goals as goal

pub returns : goal.returns
returns c = rw c.then_some.ensures (bytes-at_once c.args.self.now c.ascii_bytes.result c.ascii_bytes.ensures)
