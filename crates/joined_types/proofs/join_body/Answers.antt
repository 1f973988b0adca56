use native.Mathlib.Omega.{arith}
use Rattle.joined_types.specs.told.Fates.{joined_levels}
use Rattle.joined_types.proofs.TableLaws.{joining-less, body-start, body-passed, body-put, body-end, body-joined}
use Rattle.joined_types.proofs.join_body.Goals as goal

pub loop-read-init : goal.loop-read-init
loop-read-init c = body-start joined_levels c.args.s.now

pub returns-in-Some : goal.returns-in-Some
returns-in-Some c =
    let j = c.loop-read.invariant in
    let e = (rw (c.whole.ensures.0, c.whole.ensures.1) at c.in-Ok.ensures).inside (omega (arith, j.inside, j.many)) in
    body-joined joined_levels c.args.s.now
    (body-put joined_levels c.args.s.now j 0 c.in-Ok.read e c.join_table.new.s c.if-read-eq-CLASS_TYPE_TABLE.true c.bytes.ensures c.in-Some.is c.join_table.ensures)

pub returns-in_default-bytes : goal.returns-in_default-bytes
returns-in_default-bytes c = body-joined joined_levels c.args.s.now (body-end joined_levels c.args.s.now c.loop-read.invariant)

pub loop-read-smaller : goal.loop-read-smaller
loop-read-smaller c = joining-less c.loop-read.invariant 0 c.in-Ok.read ((rw (c.whole.ensures.0, c.whole.ensures.1) at c.in-Ok.ensures).inside (omega (arith, c.loop-read.invariant.inside, c.loop-read.invariant.many)))

pub loop-read-preserved : goal.loop-read-preserved
loop-read-preserved c =
    let j = c.loop-read.invariant in
    let e = (rw (c.whole.ensures.0, c.whole.ensures.1) at c.in-Ok.ensures).inside (omega (arith, j.inside, j.many)) in
    body-passed joined_levels c.args.s.now j 0 c.in-Ok.read e c.if-read-eq-CLASS_TYPE_TABLE.false

pub returns : goal.returns
returns c = body-joined joined_levels c.args.s.now (body-end joined_levels c.args.s.now c.loop-read.invariant)
