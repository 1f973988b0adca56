use Rattle.schema.proofs.HeadLaws.{head-told}
use Rattle.schema.proofs.head.type_head.Goals as goal

pub returns : goal.returns
returns c = rw (c.flatten.ensures, c.unwrap_or.ensures) (head-told c.args.msg.base c.args.msg.bytes.now c.seen_in-seen.result c.seen_in-seen.ensures)
