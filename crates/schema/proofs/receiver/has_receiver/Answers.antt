use mathlib.Core.Path.{sym, ◌∙◌}
use Rattle.schema.proofs.ReceiverLaws.{receiver-inline, receiver-indexed}
use Rattle.schema.proofs.receiver.has_receiver.Goals as goal

pub returns-then-is_some : goal.returns-then-is_some
returns-then-is_some c = receiver-inline c.args.msg.bytes.now c.args.msg.base c.args.slot.inline c.args.slot.indexed c.bytes.ensures c.is_some.ensures c.if-is_some.true

pub returns-else-is_some : goal.returns-else-is_some
returns-else-is_some c = receiver-indexed c.args.msg.bytes.now c.args.msg.base c.args.slot.inline c.args.slot.indexed c.bytes.ensures (sym c.is_some.ensures ∙ c.if-is_some.false) c.find.result c.find.ensures c.is_some-else-is_some.ensures
