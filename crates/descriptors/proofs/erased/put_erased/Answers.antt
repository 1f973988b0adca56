use mathlib.Core.Path.{ap, ◌∙◌}
use Rattle.std.specs.Prelude.{Some}
use Rattle.schema.specs.told.SchemaTold.{lent}
use Rattle.descriptors.proofs.ErasedWalk.{part-here, argument-here, walking-whole, walking-absent, walking-empty, found-inside, walking-less, walking_on}
use Rattle.descriptors.proofs.erased.put_erased.Goals as goal
use Rattle.descriptors.proofs.erased.put_erased.Goals.{then-how, else-how}

pub returns-in-Whole : goal.returns-in-Whole
returns-in-Whole c = walking-whole c.loop-one.invariant.0 (part-here (lent c.args.context.now) c.args.context.now.as_long c.loop-one.how.in_table c.loop-one.how.reached.left c.bytes_of_type-bytes.ensures c.of-msg.ensures c.loop-one.invariant.1 c.loop-one.invariant.2 c.put_type_part.ensures) c.requires.2 c.requires.1 c.requires.3 (c.in_ok-one.was ∙ ap Some c.in-Whole.is)

pub returns-in_err-one : goal.returns-in_err-one
returns-in_err-one c = rw c.from_residual.ensures (walking-absent c.loop-one.invariant.0 (part-here (lent c.args.context.now) c.args.context.now.as_long c.loop-one.how.in_table c.loop-one.how.reached.left c.bytes_of_type-bytes.ensures c.of-msg.ensures c.loop-one.invariant.1 c.loop-one.invariant.2 c.put_type_part.ensures) c.in_err-one.was)

pub returns-in_err-found : goal.returns-in_err-found
returns-in_err-found c = rw c.from_residual-in_err-found.ensures (walking-empty c.loop-one.invariant.0 (part-here (lent c.args.context.now) c.args.context.now.as_long c.loop-one.how.in_table c.loop-one.how.reached.left c.bytes_of_type-bytes.ensures c.of-msg.ensures c.loop-one.invariant.1 c.loop-one.invariant.2 c.put_type_part.ensures) (c.in_ok-one.was ∙ ap Some c.in_default.is) c.saturating_sub.ensures (argument-here (lent c.args.context.now) c.args.context.now.as_long c.loop-one.how.in_table c.loop-one.how.reached.left c.bytes_of_type-bytes.ensures c.of-msg.ensures c.loop-one.invariant.1 c.loop-one.invariant.2 c.first_argument.ensures) c.in_err-found.was)

pub loop-one-preserved : goal.loop-one-preserved
loop-one-preserved c =
    let part = (part-here (lent c.args.context.now) c.args.context.now.as_long c.loop-one.how.in_table c.loop-one.how.reached.left c.bytes_of_type-bytes.ensures c.of-msg.ensures c.loop-one.invariant.1 c.loop-one.invariant.2 c.put_type_part.ensures) in
    let argument = (argument-here (lent c.args.context.now) c.args.context.now.as_long c.loop-one.how.in_table c.loop-one.how.reached.left c.bytes_of_type-bytes.ensures c.of-msg.ensures c.loop-one.invariant.1 c.loop-one.invariant.2 c.first_argument.ensures) in
    let i = found-inside c.loop-one.invariant.0 part (c.in_ok-one.was ∙ ap Some c.in_default.is) c.saturating_sub.ensures argument c.in_ok-found.was in (
      walking_on c.loop-one.invariant.0 part (c.in_ok-one.was ∙ ap Some c.in_default.is) c.saturating_sub.ensures argument c.in_ok-found.was (elim c.if-how.branch [ then-how w ↦ rw (w.how-is, w.if-how.true) | else-how w ↦ rw (w.how-is, w.if-how.false) ]),
      i.0,
      i.1,
      c.put_type_part.auto.area ∙ c.loop-one.invariant.3,
    )

pub loop-one-smaller : goal.loop-one-smaller
loop-one-smaller c = walking-less c.loop-one.invariant.0 (part-here (lent c.args.context.now) c.args.context.now.as_long c.loop-one.how.in_table c.loop-one.how.reached.left c.bytes_of_type-bytes.ensures c.of-msg.ensures c.loop-one.invariant.1 c.loop-one.invariant.2 c.put_type_part.ensures) (c.in_ok-one.was ∙ ap Some c.in_default.is) c.saturating_sub.ensures (argument-here (lent c.args.context.now) c.args.context.now.as_long c.loop-one.how.in_table c.loop-one.how.reached.left c.bytes_of_type-bytes.ensures c.of-msg.ensures c.loop-one.invariant.1 c.loop-one.invariant.2 c.first_argument.ensures) c.in_ok-found.was
