use Rattle.std.proofs.Common.{arith}
use Rattle.wire.proofs.FieldLaws.{varint-inside}
use Rattle.vectors.proofs.of_wire.show_packed.Goals as goal

pub loop-at-smaller : goal.loop-at-smaller
loop-at-smaller g c =
    let past = varint-inside c.args.s.base c.args.s.bytes.now c.loop-at.at c.in-Ok.read (c.in-Ok.ensures.inside (omega arith)) (omega arith) in
    omega (arith, past.0, past.1)
