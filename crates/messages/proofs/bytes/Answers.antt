use Rattle.messages.proofs.FindLaws.{piece_is}
use Rattle.messages.proofs.bytes.Goals as goal

pub returns : goal.returns
returns c = piece_is c.args.s.base c.args.s.bytes.now c.args.number _ c.find.ensures c.piece_in.ensures
