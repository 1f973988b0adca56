use mathlib.Core.Path.{◌∙◌}
use Rattle.sheet_calls.specs.Calls.{converted_in}
use Rattle.sheet_calls.proofs.ConvertLaws.{old_answers}
use Rattle.sheet_calls.proofs.sheet_old_to_new.Goals as goal

pub returns : goal.returns
returns c =
    let a = c.args in
    let units' = c.old_to_new.new.units in
    let x = old_answers a.units.now a.d1.now (converted_in c.conversion_answer.result units') (c.old_to_new.ensures ∙ c.conversion_answer.ensures units') in
    record { value = x.0; refusals = x.1.0; enough = x.1.1.0; kept = x.1.1.1.0; back = x.1.1.1.1.0; sheets = x.1.1.1.1.1 }
