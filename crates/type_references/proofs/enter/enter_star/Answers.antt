use Rattle.type_references.proofs.EnterLaws.{star_done}
use Rattle.schema.specs.told.SchemaTold.{lent}
use Rattle.type_references.proofs.enter.enter_star.Goals as goal

pub returns-clause-written : goal.returns-clause-written
returns-clause-written c = star_done (lent c.args.context.now) c.args.out.now.state c.requires c.if-out-eq0.false (rw c.argument-shown.ensures at c.put_type.ensures.written)
