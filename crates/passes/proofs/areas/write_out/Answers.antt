use Rattle.inputs.specs.told.KindTold.{kind_number}
use Rattle.schema.specs.told.SchemaTold.{lent}
use Rattle.passes.proofs.AreaLaws.{copied-out, walked-out}
use Rattle.passes.proofs.areas.write_out.Goals as goal

pub returns-then-length-measured-clause-written : goal.returns-then-length-measured-clause-written
returns-then-length-measured-clause-written c = copied-out (kind_number c.args.kind) (lent c.args.context.now) c.args.measured.at c.args.measured.sections c.args.measured.sheet.now c.args.measured.text.now c.requires.3 c.args.areas.now.sheet.now c.put_all.new.area c.args.areas.now.text.now c.put_all-then-length-measured.new.area c.requires.1 c.requires.2 c.if-size-measured.true c.if-length-measured.true c.put_all.ensures c.put_all-then-length-measured.ensures

pub returns-clause-written : goal.returns-clause-written
returns-clause-written c = walked-out (kind_number c.args.kind) (lent c.args.context.now) c.args.measured.at c.args.measured.sections c.args.measured.sheet.now c.args.measured.text.now c.requires.3 c.args.areas.now.sheet.now c.walk.new.areas.sheet.now c.args.areas.now.text.now c.walk.new.areas.text.now c.requires.1 c.requires.2 c.walk.result c.walk.ensures.written
