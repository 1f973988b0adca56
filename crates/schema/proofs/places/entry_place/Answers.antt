use Rattle.schema.proofs.FoundLaws.{entry-none-left, entry-nowhere, entry-there}
use Rattle.schema.proofs.places.entry_place.Goals as goal

pub returns-then-left-eq0 : goal.returns-then-left-eq0
returns-then-left-eq0 c = entry-none-left c.args.context.now.payload.now c.args.context.now.notes.now c.args.context.now.tables c.args.index c.args.left c.if-left-eq0.true

pub returns-in_err-entry : goal.returns-in_err-entry
returns-in_err-entry c = rw c.from_residual.ensures (entry-nowhere c.args.context.now.payload.now c.args.context.now.notes.now c.args.context.now.tables c.args.index c.args.left c.entry_at.ensures c.in_err-entry.was)

pub returns : goal.returns
returns c = entry-there c.args.context.now.payload.now c.args.context.now.notes.now c.args.context.now.tables c.args.index c.args.left c.entry_at.ensures c.requires c.if-left-eq0.false c.is_nullable.ensures c.in_ok-entry.was
