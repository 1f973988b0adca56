use Rattle.lookup.proofs.QualifiedLaws.{class-none, class-whole, class-inner}
use Rattle.lookup.proofs.qualified.qualified_units.Goals as goal

pub returns-in_err-part : goal.returns-in_err-part
returns-in_err-part c = λ z payload f. rw c.from_residual.ensures (class-none payload c.args.context.now.d2.now c.args.context.now.ends.now c.args.index (c.d2_extent.ensures c.args.context.now.d2.now f) c.in_err-part.was)

pub returns-then-is_wrapped : goal.returns-then-is_wrapped
returns-then-is_wrapped c = λ z payload f. class-inner payload c.args.context.now.d2.now c.args.context.now.ends.now c.args.index (c.d2_extent.ensures c.args.context.now.d2.now f) c.in_ok-part.was c.clipped.ensures c.size_at-size.result c.class_size.result (c.size_at-size.ensures c.args.context.now.d2.now c.args.context.now.ends.now z) c.if-is_wrapped.ensures c.class_size.ensures c.units_name.ensures

pub returns : goal.returns
returns c = λ z payload f. class-whole payload c.args.context.now.d2.now c.args.context.now.ends.now c.args.index (c.d2_extent.ensures c.args.context.now.d2.now f) c.in_ok-part.was c.clipped.ensures c.size_at-size.result (c.size_at-size.ensures c.args.context.now.d2.now c.args.context.now.ends.now z) c.if-is_wrapped.ensures c.units_name-2.ensures
