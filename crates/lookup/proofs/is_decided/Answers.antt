use mathlib.Core.Path.{sym, ◌∙◌}
use Rattle.lookup.proofs.LookupLaws.{decided-told}
use Rattle.lookup.proofs.is_decided.Goals as goal

pub returns : goal.returns
returns c = λ records i. c.is_some.ensures ∙ sym (decided-told c.args.context.now.payload.now c.args.context.now.notes.now c.args.context.now.tables.records c.args.index records i c.by_record.result c.by_record.ensures)
