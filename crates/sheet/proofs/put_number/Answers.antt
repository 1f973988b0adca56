use Rattle.std.proofs.Common.{rules}
use mathlib.Core.Path.{◌≡◌, refl, sym, ap}
use Prim.Native.Nat.{ℕ, ◌+◌, ◌-◌}
use native.Mathlib.Omega.{arith}
use lib.Seq.{sets}
use Rattle.foundation.specs.Digits.{little}
use Rattle.foundation.proofs.OverlayLaws.{sets_out}
use Rattle.sheet.proofs.WriteLaws.{number_step, number_end}
use Rattle.sheet.proofs.put_number.Goals as goal

pub returns-then-area-at : goal.returns-then-area-at
returns-then-area-at c = sym (sets_out (little c.args.width c.args.n) c.args.area.now _ c.if-area-at.true)

pub loop-i-init : goal.loop-i-init
loop-i-init c =
    let a = c.args in
    let e : ◌≡◌ {A = ℕ} a.width (a.at + a.width - a.at) = omega arith in
    (refl, ap (λ (w : ℕ). sets a.area.now a.at (little w a.n)) e)

pub loop-i-preserved : goal.loop-i-preserved
loop-i-preserved c =
    let a = c.args in
    let i = c.loop-i.i in
    (search rules, number_step _ _ i (a.at + a.width - i) (a.at + a.width - (i + 1)) _ (omega arith) c.loop-i.invariant.1)

pub returns : goal.returns
returns c = number_end _ _ c.loop-i.i (c.args.at + c.args.width - c.loop-i.i) _ (λ h. omega arith) c.loop-i.invariant.1
