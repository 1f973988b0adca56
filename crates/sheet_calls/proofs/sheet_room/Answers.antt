use native.Mathlib.Omega.{arith}
use mathlib.Core.Path.{◌∙◌}
use mathlib.Core.List.{[], ◌∷◌}
use Rattle.descriptors.proofs.ErasedLaws.{units_each}
use Rattle.inputs.specs.Inputs.{input}
use Rattle.sheet_calls.proofs.CallLaws.{exported_room, room-answers}
use Rattle.sheet_calls.proofs.sheet_room.Goals as goal

pub returns : goal.returns
returns c =
    let a = c.args in
    let f = c.ranges in
    let told = exported_room a.k a.major a.minor a.patch a.d1.now a.d2.now a.ends.now f.k f.major f.minor f.patch (c.room.ensures ∙ c.room_answer.ensures) in
    let x = room-answers (input a.k (a.major ∷ a.minor ∷ a.patch ∷ []) a.d1.now a.d2.now a.ends.now) c.room_answer.result told
    (units_each a.d2.now λ i. omega (arith, c.type_inv.d2 i)) in
    record { value = x.0; units = x.1.0; exact = x.1.1.0; unused = x.1.1.1 }
