use mathlib.Core.Path.{◌∙◌, refl}
use native.Mathlib.Omega.{arith}
use Rattle.std.proofs.lemmas.Result.{err_from_is_err_and}
use Rattle.messages.proofs.BodiesLaws.{goes-start, goes-next, goes-to}
use Rattle.names.proofs.NoteLaws.{Noting, noting_start, noting-none, body-in, noting-refused, noting-full, noting-next}
use Rattle.names.proofs.records.note_records.Goals as goal

pub loop-record-init : goal.loop-record-init
loop-record-init c =
    let a = c.args in
    let g = goes-start c.into_iter-record-iterator.ensures.into_iter_gives c.bodies_from-record-items.ensures (Noting a.bytes.now a.at a.notes.now 0 0) (noting_start a.bytes.now a.at a.notes.now) in
    (rw (c.whole-table.ensures.0, c.whole-table.ensures.1) at g.0, refl, omega arith, omega arith, omega arith, g.1)

pub of-message-requires : goal.of-message-requires
of-message-requires c = let h = body-in c.args.bytes.now c.args.at c.loop-record.notes c.loop-record.total c.loop-record.count c.loop-record.record-iterator.at c.loop-record.invariant.5 (goes-next c.loop-record.invariant.0 c.in-Some.ensures.steps).0 refl in (omega arith, omega arith)

pub returns-in_err-check : goal.returns-in_err-check
returns-in_err-check c =
    let p = err_from_is_err_and c.from_residual.result c.from_residual.ensures.1 in
    rw (p.1, p.2) (noting-refused c.args.bytes.now c.args.at c.loop-record.notes c.loop-record.total c.loop-record.count c.loop-record.record-iterator.at c.loop-record.invariant.5 (goes-next c.loop-record.invariant.0 c.in-Some.ensures.steps).0 refl (rw (c.of-message.ensures.0, c.of-message.ensures.1) at c.check.ensures) c.in_err-check.was)

pub returns-then-room-count : goal.returns-then-room-count
returns-then-room-count c = noting-full c.args.bytes.now c.args.at c.loop-record.notes c.loop-record.total c.loop-record.count c.loop-record.record-iterator.at c.loop-record.invariant.5 (goes-next c.loop-record.invariant.0 c.in-Some.ensures.steps).0 refl (omega arith) c.if-room-count.true

pub overflow_cast-record : goal.overflow_cast-record
overflow_cast-record c = let h = body-in c.args.bytes.now c.args.at c.loop-record.notes c.loop-record.total c.loop-record.count c.loop-record.record-iterator.at c.loop-record.invariant.5 (goes-next c.loop-record.invariant.0 c.in-Some.ensures.steps).0 refl in omega arith

pub loop-record-preserved : goal.loop-record-preserved
loop-record-preserved c =
    let a = c.args in
    let l = c.loop-record in
    let n = goes-next l.invariant.0 c.in-Some.ensures.steps in
    let to = goes-to l.invariant.0 c.in-Some.ensures.steps refl in
    let h = body-in a.bytes.now a.at l.notes l.total l.count l.record-iterator.at l.invariant.5 n.0 refl in
    let on = noting-next a.bytes.now a.at l.notes l.total l.count l.record-iterator.at l.invariant.5 n.0 refl (rw (c.of-message.ensures.0, c.of-message.ensures.1) at c.check.ensures) c.in_ok-check.was (omega arith) (omega arith) c.index.result (rw (c.of-message.ensures.0, c.of-message.ensures.1) at c.index.ensures) c.served-range.ensures (rw c.from-total.ensures at c.put_entry.ensures) in
    (n.1, c.put_entry.auto.notes ∙ l.invariant.1, omega (arith, to), omega arith, omega arith, rw (to, c.from-total.ensures) on)

pub returns : goal.returns
returns c =
    let a = c.args in
    let l = c.loop-record in
    noting-none a.bytes.now a.at l.notes l.total l.count l.record-iterator.at l.invariant.5 (goes-next l.invariant.0 c.in-None.ensures.steps).0 refl
