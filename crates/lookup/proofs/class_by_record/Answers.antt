use mathlib.Core.Bool.{true}
use Rattle.lookup.proofs.LookupLaws.{by-none, by-class}
use Rattle.lookup.proofs.class_by_record.Goals as goal

pub returns-in_err-words_of : goal.returns-in_err-words_of
returns-in_err-words_of c = rw c.from_residual.ensures (by-none c.args.context.now.notes.now c.args.context.now.tables.records c.args.index true c.in_err-words_of.ensures)

pub returns : goal.returns
returns c = by-class c.args.context.now.notes.now c.args.context.now.tables.records c.args.index c.in_ok-words_of.ensures c.noted_class.ensures
