use Rattle.std.proofs.Common.{rules}
use Rattle.inputs.specs.told.KindTold.{kind_number}
use Rattle.schema.specs.told.SchemaTold.{lent}
use Rattle.passes.proofs.AreaLaws.{start_affords, from_start, rest_stands}
use Rattle.passes.proofs.walk.Goals as goal

pub body_in-requires : goal.body_in-requires
body_in-requires c = rw (c.rest-body.ensures.0, c.rest-body.ensures.1) (start_affords (lent c.args.context.now) c.args.at c.requires.0 c.start.ensures, rest_stands c.args.context.now.payload.now c.args.at c.requires.1.opened.inside)

pub returns-clause-written : goal.returns-clause-written
returns-clause-written c = from_start (kind_number c.args.kind) (lent c.args.context.now) c.args.at c.requires.1 c.requires.0 c.start.ensures c.body_in.result c.args.areas.now.sheet.now c.body_in.new.out.sheet.now c.args.areas.now.text.now c.body_in.new.out.text.now (search rules) (search rules) (rw (c.rest-body.ensures.0, c.rest-body.ensures.1) at c.body_in.ensures.written)
