use mathlib.Core.Path.{sym, ◌∙◌}
use native.Mathlib.Omega.{arith}
use Rattle.schema.specs.told.SchemaTold.{lent}
use Rattle.string_marks.proofs.NameMarks.{put-marked, decided-marked, past-marked}
use Rattle.string_marks.proofs.look_ups.mark_string.Goals.{else-wide-context-via-then-wide-context+else-not-is_decided, else-wide-context-via-else-wide-context}
use Rattle.string_marks.proofs.look_ups.mark_string.Goals as goal

pub returns-then-not-is_decided : goal.returns-then-not-is_decided
returns-then-not-is_decided c = rw (c.put.ensures, c.wide-then-not-is_decided.ensures) (put-marked (lent c.args.context.now) c.args.index c.args.used.now (omega (arith, c.if-wide-context.true, c.wide.ensures)) (λ records o. sym c.if-not-is_decided.true ∙ c.is_decided.ensures records o))

pub returns-else-wide-context : goal.returns-else-wide-context
returns-else-wide-context c = elim c.else-wide-context.branch [
  | else-wide-context-via-then-wide-context+else-not-is_decided w ↦
      decided-marked (lent c.args.context.now) c.args.index c.args.used.now λ records o. sym w.if-not-is_decided.false ∙ w.is_decided.ensures records o
  | else-wide-context-via-else-wide-context w ↦ past-marked (lent c.args.context.now) c.args.index c.args.used.now (omega (arith, w.if-wide-context.false, c.wide.ensures))
]
