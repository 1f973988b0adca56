use Rattle.lookup.proofs.LookupLaws.{words-none, words-some}
use Rattle.lookup.proofs.words_of.Goals as goal

pub returns-in_err-at : goal.returns-in_err-at
returns-in_err-at c = rw c.from_residual.ensures (words-none c.args.context.now.notes.now c.args.context.now.tables.records c.args.index c.find_record.ensures.record c.in_err-at.was)

pub returns : goal.returns
returns c = words-some c.args.context.now.notes.now c.args.context.now.tables.records c.args.index c.find_record.ensures.record c.in_ok-at.was
