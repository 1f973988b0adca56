use mathlib.Core.Path.{ap, sym, ◌∙◌}
use mathlib.Core.Bool.{Bool, ◌||◌}
use Rattle.fields.specs.Fields.{Type-class_name}
use Rattle.schema.specs.told.SchemaTold.{lent}
use Rattle.descriptors.proofs.ErasedLaws.{units_each, type-absent, type-nothing, type-part}
use Rattle.descriptors.proofs.erased.put_type_part.Goals as goal
use Rattle.descriptors.proofs.erased.put_type_part.Goals.{then-placed, else-placed}

pub returns-in_err-name : goal.returns-in_err-name
returns-in_err-name c = rw c.from_residual.ensures (type-absent (lent c.args.context.now) c.args.msg.bytes.now c.args.msg.base c.args.placed.reached.nullable c.args.placed.position c.args.at c.class_name_at.result (λ s o m w. c.class_name_at.ensures s o Type-class_name m (c.type_head-head.ensures.name m w)) c.in_err-name.was)

pub returns : goal.returns
returns c = type-part (lent c.args.context.now) c.args.msg.bytes.now c.args.msg.base c.args.placed.reached.nullable c.args.placed.position c.args.at c.class_name_at.result (λ s o m w. c.class_name_at.ensures s o Type-class_name m (c.type_head-head.ensures.name m w)) c.in_ok-name.was (units_each c.args.context.now.d2.now c.name_meaning-meaning.ensures.units) c.name_meaning-meaning.result c.name_meaning-meaning.ensures.means (λ m w. ap (λ (b : Bool). c.args.placed.reached.nullable || b) (c.type_head-head.ensures.nullable m w) ∙ sym (elim c.if-placed.branch [ then-placed w ↦ rw (w.nullable-is, w.if-placed.true) | else-placed w ↦ rw (w.nullable-is, w.if-placed.false) ])) c.printed_as.result c.printed_as.ensures c.in_ok-printed.was c.put_printed.ensures

pub returns-in_err-printed : goal.returns-in_err-printed
returns-in_err-printed c = rw c.from_residual-in_err-printed.ensures (type-nothing (lent c.args.context.now) c.args.msg.bytes.now c.args.msg.base c.args.placed.reached.nullable c.args.placed.position c.args.at c.class_name_at.result (λ s o m w. c.class_name_at.ensures s o Type-class_name m (c.type_head-head.ensures.name m w)) c.in_ok-name.was (units_each c.args.context.now.d2.now c.name_meaning-meaning.ensures.units) c.name_meaning-meaning.result c.name_meaning-meaning.ensures.means (λ m w. ap (λ (b : Bool). c.args.placed.reached.nullable || b) (c.type_head-head.ensures.nullable m w) ∙ sym (elim c.if-placed.branch [ then-placed w ↦ rw (w.nullable-is, w.if-placed.true) | else-placed w ↦ rw (w.nullable-is, w.if-placed.false) ])) c.printed_as.result c.printed_as.ensures c.in_err-printed.was)
