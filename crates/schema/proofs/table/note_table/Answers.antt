use Rattle.foundation.proofs.ErrorLaws.{handed_on}
use Rattle.schema.proofs.TableLaws.{table-noted, table-unnoted}
use Rattle.schema.proofs.table.note_table.Goals as goal

pub returns : goal.returns
returns c = λ m k. table-noted c.args.payload.now c.args.table.start c.args.table.end c.requires.0 m k c.note_entries.new.notes c.note_entries.result c.note_entries.ensures c.index-first.result c.in_ok-count.was (c.index-first.ensures m (rw (c.of.ensures.0, c.of.ensures.1) k))

pub returns-in_err-count : goal.returns-in_err-count
returns-in_err-count c = rw (handed_on _ c.from_residual.ensures.1) λ m k. table-unnoted c.args.payload.now c.args.table.start c.args.table.end c.requires.0 m k c.note_entries.new.notes c.note_entries.result c.note_entries.ensures c.in_err-count.was
