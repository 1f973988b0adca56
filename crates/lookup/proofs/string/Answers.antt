use mathlib.Core.Bool.{false}
use mathlib.Core.Path.{◌∙◌}
use Rattle.names.specs.Names.{d2_string, strings_from}
use Rattle.lookup.proofs.LookupLaws.{decided-no}
use Rattle.lookup.proofs.string.Goals as goal

pub returns-in-None : goal.returns-in-None
returns-in-None c = λ units records f z i. decided-no c.args.context.now.payload.now c.args.context.now.notes.now c.args.context.now.tables.records c.args.index false c.by_record.result c.by_record.ensures units records (d2_string (strings_from 0 c.args.context.now.ends.now units)) i c.in-None.is ∙ c.d2_name.ensures c.args.context.now.payload.now units f z
