use Rattle.inputs.specs.told.KindTold.{kind_number}
use Rattle.std.specs.Prelude.{Ok}
use Rattle.passes.specs.Answered.{nothing_read}
use Rattle.passes.proofs.TaskLaws.{reply_room}
use Rattle.metadata.proofs.ReadLaws.{alone_room}
use Rattle.metadata.proofs.alone.Goals as goal

pub returns-in-Room-clause-written : goal.returns-in-Room-clause-written
returns-in-Room-clause-written c = reply_room c.args.asked nothing_read c.args.areas.now.sheet.now c.args.areas.now.text.now (Ok c.without_lists-in-Room.result) c.in-Room.is (alone_room (kind_number c.args.asked.kind) c.without_lists-in-Room.result c.without_lists-in-Room.ensures.0 c.without_lists-in-Room.ensures.1)
