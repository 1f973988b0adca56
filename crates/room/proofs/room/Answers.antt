-- What is measured is told of a kind that came as bits, `m`; where it isn't refused, `t` tells it of what was read.
use Rattle.std.proofs.Common.{arith}
use Rattle.std.proofs.lemmas.Int.{to_z-of_z}
use Rattle.std.proofs.lemmas.Result.{err_from_is_err_and}
use Rattle.inputs.specs.Inputs.{input}
use Rattle.room.proofs.RoomLaws.{refused-room, accepted-room, others-within, sheet-within, texts-rise, told-room}
use Rattle.room.proofs.room.Goals as goal

pub returns-in_err-reply : goal.returns-in_err-reply
returns-in_err-reply c =
    let m = rw (to_z-of_z _ _ c.ranges.k) at c.measure.ensures in
    let p = err_from_is_err_and c.from_residual.result c.from_residual.ensures.1 in
    rw (p.1, p.2) (refused-room _ _ m c.in_err-reply.was)

pub parameters_in-parameters-requires : goal.parameters_in-parameters-requires
parameters_in-parameters-requires c =
    let i = input c.args.k c.args.version c.args.d1.now c.args.d2.now c.args.ends.now in
    let m = rw (to_z-of_z _ _ c.ranges.k) at c.measure.ensures in
    let t = accepted-room i c.measure.result m c.in_ok-reply.was in
    (others-within i _ t, sheet-within i _ t)

pub texts_in-texts-requires : goal.texts_in-texts-requires
texts_in-texts-requires c =
    let i = input c.args.k c.args.version c.args.d1.now c.args.d2.now c.args.ends.now in
    let m = rw (to_z-of_z _ _ c.ranges.k) at c.measure.ensures in
    texts-rise i _ (accepted-room i c.measure.result m c.in_ok-reply.was)

pub overflow_add-result : goal.overflow_add-result
overflow_add-result c =
    let i = input c.args.k c.args.version c.args.d1.now c.args.d2.now c.args.ends.now in
    let m = rw (to_z-of_z _ _ c.ranges.k) at c.measure.ensures in
    let t = accepted-room i c.measure.result m c.in_ok-reply.was in
    omega (arith, others-within i _ t, sheet-within i _ t)

pub returns : goal.returns
returns c =
    let i = input c.args.k c.args.version c.args.d1.now c.args.d2.now c.args.ends.now in
    let m = rw (to_z-of_z _ _ c.ranges.k) at c.measure.ensures in
    let t = accepted-room i c.measure.result m c.in_ok-reply.was in
    told-room i _ t c.parameters_in-parameters.ensures c.texts_in-texts.ensures
