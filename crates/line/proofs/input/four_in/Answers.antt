use native.Mathlib.Omega.{arith}
use Rattle.line.proofs.InputLaws.{four_of_two}
use Rattle.line.proofs.input.four_in.Goals as goal

pub returns : goal.returns
returns c =
    let a = c.args in
    (omega (arith, c.two_in.ensures.0, c.two_in-2.ensures.0, four_of_two a.piece.now a.base a.at), omega (arith, c.two_in.ensures.1, c.two_in-2.ensures.1))
