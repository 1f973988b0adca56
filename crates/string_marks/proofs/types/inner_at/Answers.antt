use Rattle.schema.specs.told.SchemaTold.{lent}
use Rattle.string_marks.proofs.TypeMarks.{part-found, part-found-last}
use Rattle.string_marks.proofs.types.inner_at.Goals as goal

pub returns-then-left-le1 : goal.returns-then-left-le1
returns-then-left-le1 c =
    let a = c.args in
    part-found-last (lent a.context.now) a.msg.base a.msg.bytes.now a.left a.in_table c.requires.2 a.part.start a.part.end c.requires.0 c.requires.1
    c.if-in_table.true a.context.now.as_long c.if-left-le1.true c.moved.result c.moved.ensures c.of.result c.of.ensures

pub returns : goal.returns
returns c =
    let a = c.args in
    part-found (lent a.context.now) a.msg.base a.msg.bytes.now a.left a.in_table c.requires.2 a.part.start a.part.end c.requires.0 c.requires.1
    c.part.result c.part.ensures
