use mathlib.Core.Path.{refl}
use lib.ListN.{length, take, drop}
use Prim.Native.Nat.{◌-◌}
use Rattle.schema.specs.told.SchemaTold.{lent}
use Rattle.string_marks.proofs.TypeMarks.{argument-falls, arguments-start, arguments-next, type-marked}
use Rattle.string_marks.proofs.types.+mark_type.Goals as goal

pub loop-argument-init : goal.loop-argument-init
loop-argument-init t c = arguments-start (lent c.args.context.now) c.args.outer.msg.base c.args.outer.msg.bytes.now c.args.outer.left c.args.outer.in_table c.args.used.now

pub mark_type-requires : goal.mark_type-requires
mark_type-requires t c = (argument-falls c.args.outer.left c.saturating_sub-left.result (length c.args.context.now.payload.now) c.in-Some.argument.start c.in-Some.argument.end c.args.outer.msg.bytes.now (take (c.in-Some.argument.end - c.in-Some.argument.start) (drop c.in-Some.argument.start c.args.outer.msg.bytes.now)) c.decreases c.saturating_sub-left.ensures refl c.in-Some.ensures.inside c.in-Some-type_of_argument.ensures.falls, c.in-Some-type_of_argument.ensures.inside)

pub loop-argument-preserved-in-Some-type_of_argument : goal.loop-argument-preserved-in-Some-type_of_argument
loop-argument-preserved-in-Some-type_of_argument t c = arguments-next (lent c.args.context.now) c.args.outer.msg.base c.args.outer.msg.bytes.now c.args.outer.left c.args.outer.in_table c.args.used.now c.loop-argument.at c.loop-argument.used c.loop-argument.invariant c.next_argument.ensures c.requires c.in-Some.is (rw c.saturating_sub-left.ensures at (c.in-Some-type_of_argument.ensures.is c.loop-argument.used c.mark_type.new.used c.mark_type.ensures))

pub loop-argument-preserved : goal.loop-argument-preserved
loop-argument-preserved t c = arguments-next (lent c.args.context.now) c.args.outer.msg.base c.args.outer.msg.bytes.now c.args.outer.left c.args.outer.in_table c.args.used.now c.loop-argument.at c.loop-argument.used c.loop-argument.invariant c.next_argument.ensures c.requires c.in-Some.is (rw c.saturating_sub-left.ensures at (c.in_default-type_of_argument.ensures.is c.loop-argument.used))

pub returns : goal.returns
returns t c = type-marked (lent c.args.context.now) c.args.outer.msg.base c.args.outer.msg.bytes.now c.args.outer.left c.args.outer.in_table c.args.used.now c.loop-argument.at c.loop-argument.used c.loop-argument.invariant c.next_argument.ensures c.in_default.is c.mark_name.ensures
