use Rattle.foundation.proofs.ErrorLaws.{handed_on}
use Rattle.declarations.proofs.PayloadLaws.{table-refused, records_unnoted, records-long, opened-then}
use Rattle.declarations.proofs.payload.open_table.Goals as goal

pub returns-in_err-check : goal.returns-in_err-check
returns-in_err-check c = rw (handed_on c.from_residual.result c.from_residual.ensures.1) (table-refused c.args.bytes.now c.args.parts c.requires.0 _ (rw (c.of.ensures.0, c.of.ensures.1) at c.in_err-check.ensures) c.args.notes.now)

pub returns-in_err-count : goal.returns-in_err-count
returns-in_err-count c = let m = rw (c.of.ensures.0, c.of.ensures.1) at c.in_ok-check.ensures in rw (handed_on c.from_residual-in_err-count.result c.from_residual-in_err-count.ensures.1) (records_unnoted c.args.bytes.now c.args.parts c.requires.0 m.0 m.1 c.index_records.new.notes _ c.in_err-count.ensures)

pub open_noted-requires : goal.open_noted-requires
open_noted-requires c = let m = rw (c.of.ensures.0, c.of.ensures.1) at c.in_ok-check.ensures in (records-long c.args.bytes.now c.args.parts c.requires.0 m.0 m.1 c.index_records.new.notes c.in_ok-count.count c.in_ok-count.ensures, c.requires.0.4, c.requires.1)

pub returns : goal.returns
returns c = let m = rw (c.of.ensures.0, c.of.ensures.1) at c.in_ok-check.ensures in opened-then c.args.bytes.now c.args.parts c.requires.0 m.0 m.1 c.index_records.new.notes c.in_ok-count.count c.in_ok-count.ensures c.open_noted.new.notes c.open_noted.auto.notes c.open_noted.result c.open_noted.ensures c.requires.1
