use mathlib.Core.Path.{sym}
use native.Mathlib.Omega.{arith}
use Rattle.foundation.proofs.OverlayLaws.{sets_out}
use Rattle.characters.proofs.WriteLaws.{left_bytes-start, left_bytes-next, left_bytes-end}
use Rattle.characters.proofs.put_bytes.Goals as goal

pub returns-then-area-at : goal.returns-then-area-at
returns-then-area-at g c = sym (sets_out c.args.bytes _ _ c.if-area-at.true)

pub loop-i-init : goal.loop-i-init
loop-i-init g c = left_bytes-start c.args.bytes c.args.area.now c.args.at

pub loop-i-preserved : goal.loop-i-preserved
loop-i-preserved g c =
    left_bytes-next c.args.bytes c.args.area.now c.args.at c.loop-i.i c.loop-i.area c.loop-i.invariant (omega (arith, c.loop-i-test.true)) c.put.ensures

pub returns : goal.returns
returns g c = left_bytes-end c.args.bytes c.args.area.now c.args.at c.loop-i.i c.loop-i.area c.loop-i.invariant (omega (arith, c.loop-i-test.false))
