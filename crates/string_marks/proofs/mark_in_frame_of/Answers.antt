use Prim.Native.Nat.{◌*◌}
use Rattle.lookup.specs.told.Strings.{codes_from}
use lib.ListN.{length-replicate, replicate}
use Rattle.inputs.specs.told.KindTold.{kind_number}
use Rattle.string_marks.proofs.UsedLaws.{decoded-marks, decoded-kept, undecoded-marks}
use Rattle.string_marks.proofs.mark_in_frame_of.Goals as goal

pub returns-in_default : goal.returns-in_default
returns-in_default g c =
    let u = c.args.units.now in
    undecoded-marks (kind_number c.args.kind) u.d1.now u.d2.now u.ends.now (replicate g.row.BYTES 0) c.decode.new.area c.decode.result c.decode.ensures c.requires.0.bytes-short
    (rw length-replicate c.requires.1) c.in_default.field-0 c.in_default.is c.args.used.now c.args.used.now

pub returns : goal.returns
returns g c =
    let u = c.args.units.now in
    decoded-marks (kind_number c.args.kind) u.d1.now u.d2.now u.ends.now (replicate g.row.BYTES 0) c.decode.new.area c.decode.result c.decode.ensures c.requires.0.bytes-short
    (rw length-replicate c.requires.1) c.in-Ok.is c.args.used.now c.mark_bytes.new.used c.mark_bytes.ensures

pub mark_bytes-requires : goal.mark_bytes-requires
mark_bytes-requires g c =
    let u = c.args.units.now in
    rw length-replicate (decoded-kept (kind_number c.args.kind) u.d1.now u.d2.now u.ends.now (replicate g.row.BYTES 0) c.decode.new.area c.decode.result c.decode.ensures c.requires.0.bytes-short
    (rw length-replicate c.requires.1) c.in-Ok.is c.requires.0 g.row.BYTES (2 * codes_from g.row.NOTES) c.requires.1 c.requires.2)
