use mathlib.Core.Path.{refl}
use Rattle.schema.proofs.FoundLaws.{place-inline, place-nowhere, place-indexed}
use Rattle.schema.proofs.places.type_place.Goals as goal

pub returns-in-Some : goal.returns-in-Some
returns-in-Some c = place-inline c.args.context.now.payload.now c.args.context.now.payload.now c.args.context.now.notes.now c.args.context.now.tables refl c.args.msg.bytes.now c.args.msg.base c.args.slot.inline c.args.slot.indexed c.args.left c.requires.0 c.bytes.ensures c.in-Some.is c.inline_place.ensures

pub returns-in_err-at : goal.returns-in_err-at
returns-in_err-at c = rw c.from_residual.ensures (place-nowhere c.args.context.now.payload.now c.args.context.now.payload.now c.args.context.now.notes.now c.args.context.now.tables refl c.args.msg.bytes.now c.args.msg.base c.args.slot.inline c.args.slot.indexed c.args.left c.requires.0 c.bytes.ensures c.in_default.is c.index.ensures c.in_err-at.was)

pub returns : goal.returns
returns c = place-indexed c.args.context.now.payload.now c.args.context.now.payload.now c.args.context.now.notes.now c.args.context.now.tables refl c.args.msg.bytes.now c.args.msg.base c.args.slot.inline c.args.slot.indexed c.args.left c.requires.0 c.bytes.ensures c.in_default.is c.index.ensures c.in_ok-at.was c.entry_place.ensures
