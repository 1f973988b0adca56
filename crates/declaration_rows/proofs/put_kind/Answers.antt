use Rattle.declaration_rows.specs.told.Written.{record_number}
use Rattle.declaration_rows.proofs.WrittenLaws.{kind-put}
use Rattle.declaration_rows.proofs.put_kind.Goals as goal

pub returns-clause-written : goal.returns-clause-written
returns-clause-written c = kind-put c.args.out.now.state c.args.out.now.sheet.now c.args.out.now.text.now (record_number c.args.kind) (rw (← c.number.ensures) c.put.ensures)
