use Rattle.joined_types.proofs.FateLaws.{
  walk_falls,
  type_unjoined,
  type_begin,
  type_over,
  type_joins,
  type_keeps,
  type_inner,
  argument_begin,
  argument_over,
  argument_joins,
  argument_keeps,
  argument_inner,
}
use Rattle.joined_types.proofs.+join_argument_join_type.Goals as goal

pub join_argument-loop-read-init : goal.join_argument-loop-read-init
join_argument-loop-read-init t c = argument_begin c.args.types c.args.levels c.args.s.now

pub join_argument-loop-read-preserved-in-Joined : goal.join_argument-loop-read-preserved-in-Joined
join_argument-loop-read-preserved-in-Joined t c = argument_joins c.args.types c.args.levels c.loop-read.invariant (rw (c.whole.ensures.0, c.whole.ensures.1) at c.field_at.ensures) c.in-Ok.is c.fate.ensures c.in-Joined.is

pub join_argument-loop-read-smaller-in-Joined : goal.join_argument-loop-read-smaller-in-Joined
join_argument-loop-read-smaller-in-Joined t c = walk_falls c.loop-read.invariant (rw (c.whole.ensures.0, c.whole.ensures.1) at c.field_at.ensures) c.in-Ok.is (join_argument-loop-read-preserved-in-Joined t c)

pub join_argument-loop-read-preserved-in-Kept : goal.join_argument-loop-read-preserved-in-Kept
join_argument-loop-read-preserved-in-Kept t c = argument_keeps c.args.types c.args.levels c.loop-read.invariant (rw (c.whole.ensures.0, c.whole.ensures.1) at c.field_at.ensures) c.in-Ok.is c.join.ensures c.after-seen.ensures

pub join_argument-loop-read-smaller-in-Kept : goal.join_argument-loop-read-smaller-in-Kept
join_argument-loop-read-smaller-in-Kept t c = walk_falls c.loop-read.invariant (rw (c.whole.ensures.0, c.whole.ensures.1) at c.field_at.ensures) c.in-Ok.is (join_argument-loop-read-preserved-in-Kept t c)

pub join_argument-loop-read-preserved : goal.join_argument-loop-read-preserved
join_argument-loop-read-preserved t c = argument_inner c.args.types c.args.levels c.loop-read.invariant (rw (c.whole.ensures.0, c.whole.ensures.1) at c.field_at.ensures) c.in-Ok.is c.join-in-Inner.ensures c.after-seen-in-Inner.ensures c.fate.ensures c.in-Inner.is c.join_type.ensures

pub join_argument-loop-read-smaller : goal.join_argument-loop-read-smaller
join_argument-loop-read-smaller t c = walk_falls c.loop-read.invariant (rw (c.whole.ensures.0, c.whole.ensures.1) at c.field_at.ensures) c.in-Ok.is (join_argument-loop-read-preserved t c)

pub join_argument-returns : goal.join_argument-returns
join_argument-returns t c = argument_over c.args.types c.args.levels c.loop-read.invariant c.join-2.ensures

pub join_type-returns-then-levels-eq0 : goal.join_type-returns-then-levels-eq0
join_type-returns-then-levels-eq0 t c = type_unjoined c.args.types c.args.levels c.args.s.now

pub join_type-loop-read-init : goal.join_type-loop-read-init
join_type-loop-read-init t c = type_begin c.args.types c.args.levels c.args.s.now c.if-levels-eq0.false

pub join_type-loop-read-preserved-in-Joined : goal.join_type-loop-read-preserved-in-Joined
join_type-loop-read-preserved-in-Joined t c = type_joins c.args.types c.args.levels c.loop-read.invariant (rw (c.whole.ensures.0, c.whole.ensures.1) at c.field_at.ensures) c.in-Ok.is c.fate.ensures c.in-Joined.is

pub join_type-loop-read-smaller-in-Joined : goal.join_type-loop-read-smaller-in-Joined
join_type-loop-read-smaller-in-Joined t c = walk_falls c.loop-read.invariant (rw (c.whole.ensures.0, c.whole.ensures.1) at c.field_at.ensures) c.in-Ok.is (join_type-loop-read-preserved-in-Joined t c)

pub join_type-loop-read-preserved-in-Kept : goal.join_type-loop-read-preserved-in-Kept
join_type-loop-read-preserved-in-Kept t c = type_keeps c.args.types c.args.levels c.loop-read.invariant (rw (c.whole.ensures.0, c.whole.ensures.1) at c.field_at.ensures) c.in-Ok.is c.join.ensures c.after-seen.ensures

pub join_type-loop-read-smaller-in-Kept : goal.join_type-loop-read-smaller-in-Kept
join_type-loop-read-smaller-in-Kept t c = walk_falls c.loop-read.invariant (rw (c.whole.ensures.0, c.whole.ensures.1) at c.field_at.ensures) c.in-Ok.is (join_type-loop-read-preserved-in-Kept t c)

pub join_type-loop-read-preserved : goal.join_type-loop-read-preserved
join_type-loop-read-preserved t c = type_inner c.args.types c.args.levels c.loop-read.invariant (rw (c.whole.ensures.0, c.whole.ensures.1) at c.field_at.ensures) c.in-Ok.is c.join-in-Inner.ensures c.fate.ensures c.in-Inner.is c.join_argument.ensures

pub join_type-loop-read-smaller : goal.join_type-loop-read-smaller
join_type-loop-read-smaller t c = walk_falls c.loop-read.invariant (rw (c.whole.ensures.0, c.whole.ensures.1) at c.field_at.ensures) c.in-Ok.is (join_type-loop-read-preserved t c)

pub join_type-returns : goal.join_type-returns
join_type-returns t c = type_over c.args.types c.args.levels c.loop-read.invariant c.join-2.ensures
