use Rattle.inputs.specs.told.KindTold.{kind_number}
use Rattle.std.proofs.Common.{arith}
use Rattle.passes.specs.told.PassTold.{reading_of}
use Rattle.metadata.proofs.ReadLaws.{notes-enough, pass-room}
use Rattle.metadata.proofs.in_frame_of.Goals as goal

pub unreachable-requires : goal.unreachable-requires
unreachable-requires g c =
    pass-room c.args.asked (reading_of (kind_number c.args.asked.kind) c.args.units.now.d1.now c.args.units.now.d2.now c.args.units.now.ends.now) _ c.args.areas.now.sheet.now c.decode_in-passed.new.areas.sheet.now c.args.areas.now.text.now c.decode_in-passed.new.areas.text.now c.decode_in-passed.ensures.written
    (record { bytes-long = omega (arith, c.requires, c.decode_in-passed.auto.bytes); notes-long = notes-enough _ g.row.BYTES g.row.NOTES (omega (arith, c.decode_in-passed.auto.notes)) c.requires.1 c.requires.2 })
    c.in-Err-NoRoom.is (rw c.in-Err-NoRoom.is at c.in-Err-NoRoom.field-0-is)
