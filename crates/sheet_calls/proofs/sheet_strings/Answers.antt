use mathlib.Core.List.{[], ◌∷◌}
use Rattle.inputs.specs.Inputs.{input}
use Rattle.string_marks.proofs.TellLaws.{used-tell}
use Rattle.sheet_calls.specs.Calls.{used_in}
use Rattle.sheet_calls.proofs.CallLaws.{exported_strings}
use Rattle.sheet_calls.proofs.sheet_strings.Goals as goal

pub returns : goal.returns
returns c =
    let a = c.args in
    let f = c.ranges in
    let told = exported_strings a.k a.major a.minor a.patch a.d1.now a.d2.now a.ends.now f.k f.major f.minor f.patch a.used.now c.strings.new.used c.strings.ensures c.used_answer.ensures in
    record { value = told; tell = used-tell (input a.k (a.major ∷ a.minor ∷ a.patch ∷ []) a.d1.now a.d2.now a.ends.now) a.used.now c.strings.new.used (used_in c.used_answer.result) told }
