use mathlib.Core.Path.{refl}
use native.Mathlib.Omega.{arith}
use Rattle.wire.proofs.VarintLaws.{joined_start, joined-next, joined-fits, joined-end}
use Rattle.wire.proofs.number_of.Goals as goal

pub loop-digit-init : goal.loop-digit-init
loop-digit-init g c =
    let a = c.into_iter-digit-iterator.ensures.into_iter_gives in
    let b = c.rev-digit-items.ensures.source in
    let d = c.iter.ensures.rest in
    joined_start g.row.BASE cc

pub overflow_mul-value : goal.overflow_mul-value
overflow_mul-value g c =
    let f = joined-fits (joined-next c.loop-digit.invariant c.next.new.self.iter.rest.now c.in-Some.ensures.steps refl) c.requires.0 c.requires.1 in
    omega arith

pub overflow_add-value : goal.overflow_add-value
overflow_add-value g c =
    let f = joined-fits (joined-next c.loop-digit.invariant c.next.new.self.iter.rest.now c.in-Some.ensures.steps c.from.ensures) c.requires.0 c.requires.1 in
    omega arith

pub loop-digit-preserved : goal.loop-digit-preserved
loop-digit-preserved g c = joined-next c.loop-digit.invariant c.next.new.self.iter.rest.now c.in-Some.ensures.steps c.from.ensures

pub returns : goal.returns
returns g c = joined-end c.loop-digit.invariant c.in-None.ensures.steps.0
