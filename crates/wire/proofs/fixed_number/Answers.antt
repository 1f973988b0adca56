use Prim.Native.Nat.{◌+◌, ◌-◌}
use native.Mathlib.Nat.{add-sub_cancel_left}
use native.Mathlib.Omega.{arith}
use Rattle.wire.proofs.FieldLaws.{fixed-below}
use Rattle.wire.proofs.fixed_number.Goals as goal

pub number_of-requires : goal.number_of-requires
number_of-requires c =
    let a = c.args in
    (omega arith, fixed-below a.s.now a.at (a.at + a.width - a.at) (λ k. omega (arith, c.type_inv.s k)) (omega (arith, c.requires.0)))

pub returns : goal.returns
returns c = rw add-sub_cancel_left at c.number_of.ensures
