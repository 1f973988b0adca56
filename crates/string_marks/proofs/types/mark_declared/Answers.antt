use Rattle.schema.specs.told.SchemaTold.{lent}
use Rattle.string_marks.proofs.TypeMarks.{declared-inline-marked, declared-indexed-marked, declared-nothing-marked}
use Rattle.string_marks.proofs.types.mark_declared.Goals as goal

pub returns-in-Some : goal.returns-in-Some
returns-in-Some c = declared-inline-marked (lent c.args.context.now) c.args.msg.base c.args.msg.bytes.now c.args.slot.inline c.args.slot.indexed c.bytes.ensures c.in-Some.is (rw (c.part.ensures.0, c.part.ensures.1) at c.mark_type.ensures)

pub returns-in_default-index : goal.returns-in_default-index
returns-in_default-index c = declared-nothing-marked (lent c.args.context.now) c.args.msg.base c.args.msg.bytes.now c.args.slot.inline c.args.slot.indexed c.bytes.ensures c.in_default.is c.index.ensures c.in_default-index.is c.args.used.now

pub returns-in-Some-type_of_entry : goal.returns-in-Some-type_of_entry
returns-in-Some-type_of_entry c = declared-indexed-marked (lent c.args.context.now) c.args.msg.base c.args.msg.bytes.now c.args.slot.inline c.args.slot.indexed c.bytes.ensures c.in_default.is c.index.ensures c.in-Some-index.is (c.in-Some-type_of_entry.ensures.is c.args.used.now c.mark_type-in-Some-type_of_entry.new.used c.mark_type-in-Some-type_of_entry.ensures)

pub returns-in_default-type_of_entry : goal.returns-in_default-type_of_entry
returns-in_default-type_of_entry c = declared-indexed-marked (lent c.args.context.now) c.args.msg.base c.args.msg.bytes.now c.args.slot.inline c.args.slot.indexed c.bytes.ensures c.in_default.is c.index.ensures c.in-Some-index.is (c.in_default-type_of_entry.ensures.is c.args.used.now)
