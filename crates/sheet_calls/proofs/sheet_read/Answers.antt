use native.Mathlib.Omega.{arith}
use mathlib.Core.Path.{◌∙◌}
use mathlib.Core.List.{[], ◌∷◌}
use Rattle.descriptors.proofs.ErasedLaws.{units_each}
use Rattle.inputs.specs.Inputs.{input}
use Rattle.sheet_calls.specs.Calls.{told_in}
use Rattle.sheet_calls.proofs.CallLaws.{exported_is, answers}
use Rattle.sheet_calls.proofs.sheet_read.Goals as goal

pub returns : goal.returns
returns c =
    let a = c.args in
    let f = c.ranges in
    let sheet' = c.read.new.sheet in
    let text' = c.read.new.text in
    let told = exported_is a.sheet.now a.text.now a.k a.major a.minor a.patch a.d1.now a.d2.now a.ends.now f.k f.major f.minor f.patch
    (c.read.ensures.0 ∙ c.reading_answer.ensures sheet' text') in
    let x = answers a.sheet.now a.text.now (input a.k (a.major ∷ a.minor ∷ a.patch ∷ []) a.d1.now a.d2.now a.ends.now)
    (told_in c.reading_answer.result sheet' text') told (units_each a.d2.now λ i. omega (arith, c.type_inv.d2 i)) in
    record { value = x.0; enough = x.1.0; broke = x.1.1.0; units = x.1.1.1.0; promised = x.1.1.1.1.0; demanded = x.1.1.1.1.1.0; unused = x.1.1.1.1.1.1 }
