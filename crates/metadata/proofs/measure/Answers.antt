use mathlib.Core.Path.{subst}
use lib.IntN.{ℤ}
use mir.Facts.{to_z-of_z}
use Rattle.inputs.specs.Inputs.{input, kind_of}
use Rattle.passes.specs.told.TaskTold.{RoomTold}
use Rattle.metadata.specs.Read.{reading}
use Rattle.metadata.proofs.measure.Goals as goal

pub returns : goal.returns
returns c = subst (λ (k : ℤ). RoomTold (kind_of k) (reading (input k c.args.version c.args.d1.now c.args.d2.now c.args.ends.now)) c.reply_to.result) (to_z-of_z c.ranges.k) c.reply_to.ensures.written.0
