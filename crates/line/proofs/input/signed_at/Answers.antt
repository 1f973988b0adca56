use mathlib.Core.Path.{◌∙◌}
use native.Mathlib.Omega.{arith}
use Rattle.line.specs.Input.{number_at}
use Rattle.line.proofs.SignedLaws.{signed_is, signed_back}
use Rattle.line.proofs.InputLaws.{number-whole}
use Rattle.line.proofs.input.signed_at.Goals as goal

pub returns : goal.returns
returns c =
    let a = c.args in
    signed_back (number_at 4 a.bytes.now a.at) (c.cast_signed.ensures ∙ signed_is c.four_in-n.result) (c.four_in-n.ensures.0 ∙ number-whole 4 a.bytes.now a.at)
    (omega (arith, c.four_in-n.ensures.1))
