use mathlib.Core.Path.{refl, ap}
use mathlib.Core.List.{map}
use Prim.Native.Nat.{ℕ}
use native.Mathlib.Nat.{add-zero}
use native.Mathlib.Omega.{arith}
use lib.ListN.{drop_of_length-le}
use lib.Seq.{sets}
use Rattle.characters.specs.told.Plain.{shown}
use Rattle.characters.proofs.AsciiLaws.{drop_next, copying-end, copying-next}
use Rattle.characters.proofs.ascii.copy_bytes.Goals as goal

pub loop-i-init : goal.loop-i-init
loop-i-init c =
    let a = c.args in
    record { ascii = c.requires.0; room = omega (arith, c.requires.1); kept = refl; left = ap (λ (n : ℕ). sets a.area.now n (map (shown a.dots a.slashes) a.s.now)) (add-zero a.at) }

pub loop-i-preserved : goal.loop-i-preserved
loop-i-preserved c = copying-next c.loop-i.invariant _ (drop_next _ _ c.loop-i-test.true) _ (omega arith) c.shown.ensures

pub returns : goal.returns
returns c = copying-end c.loop-i.invariant (drop_of_length-le _ c.loop-i-test.false)
