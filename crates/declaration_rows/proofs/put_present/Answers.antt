use Rattle.declaration_rows.proofs.WrittenLaws.{named-present, name-fits}
use Rattle.declaration_rows.proofs.put_present.Goals as goal

pub put_name-out-requires : goal.put_name-out-requires
put_name-out-requires c = let a = c.args in name-fits a.context.now.payload.now a.context.now.d2.now a.name c.requires

pub returns-clause-written : goal.returns-clause-written
returns-clause-written c = let a = c.args in named-present a.context.now.payload.now a.context.now.d2.now a.name a.out.now.state a.out.now.sheet.now a.out.now.text.now c.put_name-out.ensures c.put_ref.ensures
