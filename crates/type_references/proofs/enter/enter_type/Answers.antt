use mathlib.Core.Path.{refl}
use Prim.Native.Nat.{◌-◌}
use Rattle.std.specs.declared.result.Result.TheVariants.{Ok}
use Rattle.declaration_rows.specs.told.Written.{role_number}
use Rattle.schema.proofs.HeadLaws.{head-none}
use Rattle.schema.specs.told.SchemaTold.{lent}
use Rattle.foundation.proofs.ErrorLaws.{handed_on}
use Rattle.schema.specs.told.ArgumentTold.{projection_number}
use Rattle.type_references.specs.told.ParseTold.{CountedTold}
use Rattle.type_references.proofs.EnterLaws.{counted_none, counted-is, enter-none, enter-uncut, enter-done}
use Rattle.type_references.proofs.enter.enter_type.Goals as goal
use Rattle.type_references.proofs.enter.enter_type.Goals.{then-own+in_ok-count, else-own, then-place, else-place}

pub returns-then-out-eq0-clause-written : goal.returns-then-out-eq0-clause-written
returns-then-out-eq0-clause-written c = enter-none (lent c.args.context.now) c.args.msg.bytes.now c.args.msg.base c.args.place.reached.left (role_number c.args.place.shown.role) (projection_number c.args.place.shown.projection) c.args.place.reached.nullable c.args.out.now.state c.if-out-eq0.true

pub returns-in_err-count-clause-written : goal.returns-in_err-count-clause-written
returns-in_err-count-clause-written c = rw (handed_on _ c.from_residual.ensures.1) (enter-uncut (lent c.args.context.now) c.args.msg.bytes.now c.args.msg.base c.args.place.reached.left (role_number c.args.place.shown.role) (projection_number c.args.place.shown.projection) c.args.place.reached.nullable c.args.out.now.state c.requires c.if-out-eq0.false c.saturating_sub.ensures c.count_arguments.result c.count_arguments.ensures c.in_err-count.was)

pub returns-clause-written : goal.returns-clause-written
returns-clause-written c =
    let counted : CountedTold (lent c.args.context.now) c.args.msg.bytes.now c.args.msg.base (c.args.place.reached.left - 1) (Ok c.if-own.count) =
    elim c.if-own.branch [
      | then-own+in_ok-count w ↦ counted-is (lent c.args.context.now) c.args.msg.bytes.now c.args.msg.base (c.args.place.reached.left - 1) w.saturating_sub.ensures w.count_arguments.ensures w.in_ok-count.was w.count-is
      | else-own w ↦ rw w.count-is (counted_none (lent c.args.context.now) c.args.msg.bytes.now c.args.msg.base (c.args.place.reached.left - 1) (head-none _ _ c.type_head-own.ensures w.if-own.false))
    ] in enter-done (lent c.args.context.now) c.args.msg.bytes.now c.args.msg.base c.args.place.reached.left (role_number c.args.place.shown.role) (projection_number c.args.place.shown.projection) c.args.place.reached.nullable c.args.out.now.state c.requires c.if-out-eq0.false refl (Ok c.if-own.count) counted refl c.type_head-own.ensures (elim c.if-place.branch [ then-place w ↦ rw (w.nullable-is, w.if-place.true) | else-place w ↦ rw (w.nullable-is, w.if-place.false) ]) c.class_name_at-name.result c.class_name_at-name.ensures c.put_type.ensures.written
