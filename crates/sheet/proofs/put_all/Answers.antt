use mathlib.Core.Path.{sym, ◌∙◌}
use native.Mathlib.Omega.{arith}
use Rattle.foundation.proofs.OverlayLaws.{sets_out}
use Rattle.sheet.proofs.WriteLaws.{put-fitted}
use Rattle.sheet.proofs.put_all.Goals as goal

pub returns-then-area-at : goal.returns-then-area-at
returns-then-area-at c = sym (sets_out c.args.src.now _ _ c.if-area-at.true)

pub returns : goal.returns
returns c = c.copy_in.ensures ∙ put-fitted c.args.src.now c.args.area.now c.args.at c.min-size.result (omega arith) (λ h. omega arith)
