use Rattle.declaration_rows.proofs.WrittenLaws.{init_put}
use Rattle.declaration_rows.proofs.put_init.Goals as goal

pub returns-clause-written : goal.returns-clause-written
returns-clause-written c = init_put c.args.out.now.state c.args.out.now.sheet.now c.args.out.now.text.now c.put_all.ensures c.put_ref.ensures
