use Rattle.declaration_rows.proofs.WrittenLaws.{number_put}
use Rattle.declaration_rows.proofs.put_wide.Goals as goal

pub returns-clause-written : goal.returns-clause-written
returns-clause-written c = number_put c.args.out.now.state c.args.out.now.sheet.now c.args.out.now.text.now c.args.width c.args.n c.put_number.ensures
