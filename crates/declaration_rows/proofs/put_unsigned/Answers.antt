use Rattle.declaration_rows.proofs.WrittenLaws.{unsigned-put}
use Rattle.declaration_rows.proofs.put_unsigned.Goals as goal

pub returns-clause-written : goal.returns-clause-written
returns-clause-written c = unsigned-put c.args.out.now.state c.args.out.now.sheet.now c.args.out.now.text.now c.put_absent.ensures c.put_absent-2.ensures
