use Rattle.declaration_rows.proofs.WrittenLaws.{named_absent}
use Rattle.declaration_rows.proofs.put_named.Goals as goal

pub returns-in_default-clause-written : goal.returns-in_default-clause-written
returns-in_default-clause-written c = let a = c.args in rw c.in_default.is (named_absent a.out.now.state a.out.now.sheet.now a.out.now.text.now c.put_absent.ensures)
