use Prim.Native.Nat.{◌+◌, ◌-◌, ◌*◌}
use lib.ListN.{length}
use Rattle.joined_types.proofs.FateLaws.{TypeWalk, ArgumentWalk}
use Rattle.joined_types.proofs.+join_argument_join_type.Given as goal

abbrev pub decreases-join_argument : goal.decreases-join_argument
decreases-join_argument l = 2 * l.levels + 1

abbrev pub decreases-join_type : goal.decreases-join_type
decreases-join_type l = 2 * l.levels

abbrev pub invariant-join_argument-loop-read : goal.invariant-join_argument-loop-read
invariant-join_argument-loop-read l = ArgumentWalk l.types l.levels l.initial.s l.s l.seen l.run l.at

abbrev pub decreases-join_argument-loop-read : goal.decreases-join_argument-loop-read
decreases-join_argument-loop-read l = length l.s - l.at

abbrev pub invariant-join_type-loop-read : goal.invariant-join_type-loop-read
invariant-join_type-loop-read l = TypeWalk l.types l.levels l.initial.s l.s l.seen l.run l.at

abbrev pub decreases-join_type-loop-read : goal.decreases-join_type-loop-read
decreases-join_type-loop-read l = length l.s - l.at
