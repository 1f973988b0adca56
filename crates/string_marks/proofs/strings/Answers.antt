use mathlib.Core.Path.{ap, ◌∙◌}
use native.Mathlib.Omega.{arith}
use lib.ListN.{length, take, length-take}
use Rattle.std.proofs.lemmas.Int.{to_z-of_z}
use Rattle.std.proofs.lemmas.Result.{err_from_is_err_and}
use Rattle.inputs.specs.Inputs.{input, kind_of}
use Rattle.string_marks.proofs.UsedLaws.{refused-used, accepted-read, in_limits, few-used, marked-used}
use Rattle.string_marks.proofs.strings.Goals as goal

pub returns-in_err-measure : goal.returns-in_err-measure
returns-in_err-measure c =
    let i = input c.args.k c.args.version c.args.d1.now c.args.d2.now c.args.ends.now in
    let m = rw (to_z-of_z _ _ c.ranges.k) at c.measure.ensures in
    let p = err_from_is_err_and c.from_residual.result c.from_residual.ensures.1 in
    rw (p.1, p.2) (refused-used i c.measure.result m c.in_err-measure.was c.args.used.now)

pub returns-then-used-ends : goal.returns-then-used-ends
returns-then-used-ends c =
    let i = input c.args.k c.args.version c.args.d1.now c.args.d2.now c.args.ends.now in
    let m = rw (to_z-of_z _ _ c.ranges.k) at c.measure.ensures in
    let r = accepted-read i c.measure.result m c.in_ok-measure.was in
    few-used i r.0 r.1 c.args.used.now c.if-used-ends.true

pub mark_kind-requires : goal.mark_kind-requires
mark_kind-requires c =
    let i = input c.args.k c.args.version c.args.d1.now c.args.d2.now c.args.ends.now in
    let m = rw (to_z-of_z _ _ c.ranges.k) at c.measure.ensures in
    let r = accepted-read i c.measure.result m c.in_ok-measure.was in
    in_limits i r.0 r.1

pub returns : goal.returns
returns c =
    let i = input c.args.k c.args.version c.args.d1.now c.args.d2.now c.args.ends.now in
    let m = rw (to_z-of_z _ _ c.ranges.k) at c.measure.ensures in
    let r = accepted-read i c.measure.result m c.in_ok-measure.was in
    let n = length c.args.ends.now in
    marked-used i r.0 r.1 c.args.used.now c.mark_kind.new.used c.if-used-ends.false (c.kind_of.ensures ∙ ap kind_of (to_z-of_z _ _ c.ranges.k))
    {n = length (take n c.args.used.now)} (omega (arith, length-take n c.args.used.now, c.if-used-ends.false)) c.mark_kind.auto.used c.mark_kind.ensures c.count_marks.ensures
