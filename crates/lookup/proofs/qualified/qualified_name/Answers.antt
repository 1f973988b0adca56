use mathlib.Core.Bool.{true}
use Rattle.names.specs.Names.{d2_string, strings_from}
use Rattle.lookup.proofs.LookupLaws.{decided-no}
use Rattle.lookup.proofs.QualifiedLaws.{qualified-falls}
use Rattle.lookup.proofs.qualified.qualified_name.Goals as goal

pub returns-in-None : goal.returns-in-None
returns-in-None c = λ records f z i. let d2 = d2_string (strings_from 0 c.args.context.now.ends.now c.args.context.now.d2.now) in qualified-falls (record { records = records; d2 = d2 }) c.args.index (decided-no c.args.context.now.payload.now c.args.context.now.notes.now c.args.context.now.tables.records c.args.index true c.class_by_record.result c.class_by_record.ensures c.args.context.now.d2.now records d2 i c.in-None.is) (c.qualified_units.ensures z c.args.context.now.payload.now f)
