use mathlib.Core.Path.{◌∙◌}
use Rattle.sheet_calls.specs.Calls.{converted_in}
use Rattle.sheet_calls.proofs.ConvertLaws.{new_answers}
use Rattle.sheet_calls.proofs.sheet_new_to_old.Goals as goal

pub returns : goal.returns
returns c =
    let a = c.args in
    let units' = c.new_to_old.new.units in
    let x = new_answers a.units.now a.d1.now (converted_in c.conversion_answer.result units') (c.new_to_old.ensures ∙ c.conversion_answer.ensures units') in
    record { value = x.0; refusals = x.1.0; enough = x.1.1.0; kept = x.1.1.1.0; back = x.1.1.1.1.0; sheets = x.1.1.1.1.1 }
