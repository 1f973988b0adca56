use Prim.Native.Nat.{◌*◌}
use Rattle.schema.proofs.EntryLaws.{entry_past, entry-part}
use Rattle.schema.proofs.types.entry_at.Goals as goal

pub returns-then-tables-i : goal.returns-then-tables-i
returns-then-tables-i c = entry_past c.args.context.now.payload.now c.args.context.now.notes.now (3 * c.args.context.now.tables.records) c.args.context.now.tables.types c.args.index c.wide-i.ensures c.if-tables-i.true

pub returns : goal.returns
returns c = entry-part c.args.context.now.payload.now c.args.context.now.notes.now (3 * c.args.context.now.tables.records) c.args.context.now.tables.types c.args.index c.wide-i.ensures c.if-tables-i.false c.part_of_pair.result c.part_of_pair.ensures
