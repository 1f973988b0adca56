use mathlib.Core.Path.{refl, ◌∙◌, sym}
use native.Mathlib.Omega.{arith}
use lib.ListN.{length-set}
use Rattle.wire.proofs.VarintLaws.{onward_start, onward-cut, onward-last, onward-more, tenth-cut, tenth-oversized}
use Rattle.wire.proofs.groups_at.Goals as goal

pub loop-count-init : goal.loop-count-init
loop-count-init c =
    let a = c.args in
    record { read = onward_start a.s.base a.s.bytes.now a.at a.groups.now; room = c.told-groups; inside = omega (arith, c.requires) }

pub returns-then-s-i : goal.returns-then-s-i
returns-then-s-i c =
    let l = c.loop-count in
    sym l.invariant.read ∙ onward-cut _ _ c.args.s.bytes.now c.args.at l.count l.groups c.if-s-i.true

pub returns-then-byte-lt128 : goal.returns-then-byte-lt128
returns-then-byte-lt128 c =
    let l = c.loop-count in
    (sym l.invariant.read ∙ onward-last _ _ c.args.s.bytes.now c.args.at l.count l.groups c.loop-count-test.true l.invariant.room c.if-s-i.false refl c.group_of.ensures c.if-byte-lt128.true, rw length-set (omega (arith, l.invariant.room)))

pub loop-count-preserved : goal.loop-count-preserved
loop-count-preserved c =
    let l = c.loop-count in
    record {
      read = sym (onward-more _ _ c.args.s.bytes.now c.args.at l.count l.groups c.loop-count-test.true l.invariant.room c.if-s-i.false refl c.group_of.ensures c.if-byte-lt128.false) ∙ l.invariant.read;
      room = rw length-set l.invariant.room;
      inside = omega arith;
    }

pub returns-then-s-at : goal.returns-then-s-at
returns-then-s-at c =
    let l = c.loop-count in
    sym l.invariant.read ∙ tenth-cut _ _ c.args.s.bytes.now c.args.at l.count l.groups c.loop-count-test.false (omega arith) c.if-s-at.true

pub returns : goal.returns
returns c =
    let l = c.loop-count in
    sym l.invariant.read ∙ tenth-oversized _ _ c.args.s.bytes.now c.args.at l.count l.groups c.loop-count-test.false (omega arith) c.if-s-at.false
