use Rattle.sheet.specs.Rows.{one_if}
use Rattle.declaration_rows.proofs.WrittenLaws.{number_put}
use Rattle.declaration_rows.proofs.put_flag.Goals as goal

pub returns-clause-written : goal.returns-clause-written
returns-clause-written c = number_put c.args.out.now.state c.args.out.now.sheet.now c.args.out.now.text.now 1 (one_if c.args.on) c.put_bit.ensures
