use mathlib.Core.Path.{refl}
use native.Mathlib.Omega.{arith}
use Rattle.messages.proofs.BodiesLaws.{goes-start, goes-next, goes-to}
use Rattle.joined_types.proofs.MovedLaws.{EntriesBefore, entries_start, entries_end, entry-inside-table, entries_next}
use Rattle.joined_types.proofs.count_entries.Goals as goal

pub loop-init : goal.loop-init
loop-init c =
    let g = goes-start c.into_iter-iterator.ensures.into_iter_gives c.bodies_from-items.ensures (λ at. EntriesBefore c.args.s.now at 0) (entries_start c.args.s.now) in
    (rw (c.whole.ensures.0, c.whole.ensures.1) at g.0, g.1)

pub returns : goal.returns
returns c = entries_end c.args.s.now c.loop.iterator'.at c.loop.count c.loop.invariant.1 (goes-next c.loop.invariant.0 c.in-None.ensures.steps).0 refl

pub overflow_add-count : goal.overflow_add-count
overflow_add-count c = let h = entry-inside-table c.args.s.now c.loop.iterator'.at c.loop.count c.loop.invariant.1 (goes-next c.loop.invariant.0 c.in-Some.ensures.steps).0 refl in omega (arith, c.loop.invariant.1.few)

pub loop-preserved : goal.loop-preserved
loop-preserved c =
    let n = goes-next c.loop.invariant.0 c.in-Some.ensures.steps in
    (n.1, rw (goes-to c.loop.invariant.0 c.in-Some.ensures.steps refl) (entries_next c.args.s.now c.loop.iterator'.at c.loop.count c.loop.invariant.1 n.0 refl))
