use Rattle.declaration_rows.proofs.WrittenLaws.{counts-put}
use Rattle.declaration_rows.proofs.put_head_counts.Goals as goal

pub returns : goal.returns
returns c = λ o. let a = c.args in counts-put o a.constructors a.functions a.properties a.at a.sheet.now c.put_count.ensures c.put_count-2.ensures c.put_count-3.ensures
