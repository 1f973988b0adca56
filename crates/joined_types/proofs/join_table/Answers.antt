use native.Mathlib.Omega.{arith}
use Rattle.joined_types.specs.told.Fates.{joined_levels}
use Rattle.joined_types.proofs.TableLaws.{joining-less, table-start, table-passed, table-put, table-end}
use Rattle.joined_types.proofs.join_table.Goals as goal

pub loop-read-init : goal.loop-read-init
loop-read-init c = table-start c.count_entries-types.result joined_levels c.args.s.now

pub loop-read-smaller-in-Some : goal.loop-read-smaller-in-Some
loop-read-smaller-in-Some c = joining-less c.loop-read.invariant 0 c.in-Ok.read ((rw (c.whole.ensures.0, c.whole.ensures.1) at c.in-Ok.ensures).inside (omega (arith, c.loop-read.invariant.inside, c.loop-read.invariant.many)))

pub loop-read-preserved-in-Some : goal.loop-read-preserved-in-Some
loop-read-preserved-in-Some c =
    let j = c.loop-read.invariant in
    table-put c.count_entries-types.result joined_levels c.args.s.now j 0 c.in-Ok.read ((rw (c.whole.ensures.0, c.whole.ensures.1) at c.in-Ok.ensures).inside (omega (arith, j.inside, j.many)))
    c.join_type.new.s c.entry_of.ensures c.in-Some.is c.join_type.ensures

pub loop-read-smaller : goal.loop-read-smaller
loop-read-smaller c = joining-less c.loop-read.invariant 0 c.in-Ok.read ((rw (c.whole.ensures.0, c.whole.ensures.1) at c.in-Ok.ensures).inside (omega (arith, c.loop-read.invariant.inside, c.loop-read.invariant.many)))

pub loop-read-preserved : goal.loop-read-preserved
loop-read-preserved c =
    let j = c.loop-read.invariant in
    table-passed c.count_entries-types.result joined_levels c.args.s.now j 0 c.in-Ok.read ((rw (c.whole.ensures.0, c.whole.ensures.1) at c.in-Ok.ensures).inside (omega (arith, j.inside, j.many)))

pub returns : goal.returns
returns c = table-end c.count_entries-types.result joined_levels c.args.s.now c.loop-read.invariant c.count_entries-types.ensures
