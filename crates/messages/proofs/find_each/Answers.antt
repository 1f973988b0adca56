use Prim.Native.Nat.{ℕ, ◌<◌}
use native.Mathlib.Omega.{arith}
use lib.ListN.{get_or, replicate}
use Rattle.std.specs.Prelude.{Option, None}
use Rattle.std.proofs.lemmas.List.{get_or-replicate}
use Rattle.wire.specs.declared.WireValue.{WireValue}
use Rattle.wire.proofs.FieldsLaws.{walks-start, walks-next}
use Rattle.messages.proofs.SeenLaws.{SeenBefore, seen_start, seen-found}
use Rattle.messages.proofs.SkippedLaws.{seen-over, seen-never, seen-next}
use Rattle.messages.proofs.find_each.Goals as goal

pub loop-read-init : goal.loop-read-init
loop-read-init g c =
    let a = c.args in
    let P : ℕ → Type 0 = λ x. (i : ℕ) → i < g.row.N → SeenBefore (get_or a.numbers i 0) a.s.base a.s.bytes.now x (get_or (replicate {A = Option WireValue} g.row.N None) i None) in
    walks-start c.into_iter-read-iterator.ensures.into_iter_gives c.fields_from-read-items.ensures P
    (λ i h. rw (get_or-replicate {A = Option WireValue} g.row.N i None None h) (seen_start (get_or a.numbers i 0) a.s.base a.s.bytes.now))

pub returns-in_default : goal.returns-in_default
returns-in_default g c =
    let a = c.args in
    let l = c.loop-read in
    let n = walks-next l.invariant.0 c.in-Some.ensures.steps in
    λ i h. seen-never a.s.base a.s.bytes.now a.numbers i (omega arith) n.0 c.in_default.is (get_or l.found i None) (l.invariant.1 i h)

pub loop-read-preserved : goal.loop-read-preserved
loop-read-preserved g c =
    let a = c.args in
    let l = c.loop-read in
    let n = walks-next l.invariant.0 c.in-Some.ensures.steps in
    (n.1, λ i h. seen-next a.s.base a.s.bytes.now a.numbers i (omega arith) n.0 c.in-Ok.is (get_or l.found i None) (l.invariant.1 i h) (c.keep_first-more.ensures.0 i h))

pub returns-in-None : goal.returns-in-None
returns-in-None g c =
    let a = c.args in
    let l = c.loop-read in
    let n = walks-next l.invariant.0 c.in-None.ensures.steps in
    λ i h. seen-over a.s.base a.s.bytes.now a.numbers i (omega arith) n.0 (get_or l.found i None) (l.invariant.1 i h)

pub returns-then-all_found : goal.returns-then-all_found
returns-then-all_found g c =
    let a = c.args in
    let l = c.loop-read in
    let n = walks-next l.invariant.0 c.in-Some.ensures.steps in
    λ i h.
    let t = seen-next a.s.base a.s.bytes.now a.numbers i (omega arith) n.0 c.in-Ok.is (get_or l.found i None) (l.invariant.1 i h) (c.keep_first-more.ensures.0 i h) in
    seen-found (get_or a.numbers i 0) a.s.base a.s.bytes.now _ _ (c.all_found.ensures c.if-all_found.true i h) t
