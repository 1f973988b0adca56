use mathlib.Core.Path.{◌∙◌, refl}
use Rattle.messages.proofs.BodiesLaws.{goes-start, goes-next, goes-to}
use Rattle.messages.proofs.BodyLaws.{checked_in}
use native.Mathlib.Omega.{arith}
use Rattle.foundation.proofs.ErrorLaws.{handed_on}
use Rattle.schema.proofs.TableLaws.{EntriesNoting, noting_start, noting-none, body-in, noting-refused, no_place, noting-next}
use Rattle.schema.proofs.table.note_entries.Goals as goal

pub loop-entry-init : goal.loop-entry-init
loop-entry-init c =
    let a = c.args in
    let g = goes-start c.into_iter-entry-iterator.ensures.into_iter_gives c.bodies_from-entry-items.ensures (EntriesNoting a.bytes.now a.at a.notes.now 0) (noting_start a.bytes.now a.at a.notes.now) in
    (rw (c.whole-table.ensures.0, c.whole-table.ensures.1) at g.0, refl, omega arith, g.1)

pub returns : goal.returns
returns c = noting-none c.args.bytes.now c.args.at c.loop-entry.notes c.loop-entry.count c.loop-entry.entry-iterator.at c.loop-entry.invariant.3 (goes-next c.loop-entry.invariant.0 c.in-None.ensures.steps).0 refl

pub returns-in_err-check : goal.returns-in_err-check
returns-in_err-check c = rw (handed_on _ c.from_residual.ensures.1) (noting-refused c.args.bytes.now c.args.at c.loop-entry.notes c.loop-entry.count c.loop-entry.entry-iterator.at c.loop-entry.invariant.3 (goes-next c.loop-entry.invariant.0 c.in-Some.ensures.steps).0 refl c.check.result (checked_in 0 c.args.bytes.now c.in-Some.entry (rw (c.whole-table.ensures.0, c.whole-table.ensures.1) at c.part.ensures) c.check.result c.check.ensures) c.in_err-check.was)

pub returns-then-notes-count : goal.returns-then-notes-count
returns-then-notes-count c = no_place c.args.bytes.now c.args.at c.loop-entry.notes c.loop-entry.count c.loop-entry.entry-iterator.at c.loop-entry.invariant.3 (goes-next c.loop-entry.invariant.0 c.in-Some.ensures.steps).0 refl c.if-notes-count.true

pub loop-entry-preserved : goal.loop-entry-preserved
loop-entry-preserved c =
    let a = c.args in
    let l = c.loop-entry in
    let n = goes-next l.invariant.0 c.in-Some.ensures.steps in
    let to = goes-to l.invariant.0 c.in-Some.ensures.steps refl in
    let h = body-in a.bytes.now a.at l.notes l.count l.entry-iterator.at l.invariant.3 n.0 refl in
    let on = noting-next a.bytes.now a.at l.notes l.count l.entry-iterator.at l.invariant.3 n.0 refl c.check.result (checked_in 0 a.bytes.now c.in-Some.entry (rw (c.whole-table.ensures.0, c.whole-table.ensures.1) at c.part.ensures) c.check.result c.check.ensures) c.in_ok-check.was c.if-notes-count.false (omega arith) c.put_entry.ensures in
    (n.1, c.put_entry.auto.notes ∙ l.invariant.1, omega (arith, to), rw to on)
