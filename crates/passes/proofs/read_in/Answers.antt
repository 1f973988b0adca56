use mathlib.Core.Path.{refl, ap}
use Rattle.inputs.specs.told.KindTold.{kind_number}
use Rattle.std.specs.Prelude.{Ok}
use Rattle.std.proofs.lemmas.Result.{err_from_is_err_and}
use Rattle.schema.specs.told.SchemaTold.{lent}
use Rattle.foundation.proofs.ErrorLaws.{handed_on}
use Rattle.passes.proofs.AreaLaws.{types-left, measured-is}
use Rattle.passes.proofs.TaskLaws.{reply_refused, reply_answered, reply_room, measured_room}
use Rattle.passes.proofs.read_in.Goals as goal

pub returns-in_err-sections-clause-written : goal.returns-in_err-sections-clause-written
returns-in_err-sections-clause-written c =
    let p = err_from_is_err_and c.from_residual.result c.from_residual.ensures.1 in
    rw (p.1, p.2) (reply_refused c.args.asked.task (kind_number c.args.asked.kind) _ _ c.args.areas.now.sheet.now c.args.areas.now.text.now c.in_err-sections.ensures.written)

pub write_in-requires : goal.write_in-requires
write_in-requires c = let e = c.of-measured.ensures in (c.requires.0, rw (e.0, e.1, e.2, e.3) (measured-is (kind_number c.args.asked.kind) (lent c.args.context.now) c.args.at c.requires.1 c.in_ok-sections.ensures.written))

pub told_room-requires : goal.told_room-requires
told_room-requires c =
    types-left (kind_number c.args.asked.kind) (lent c.args.context.now) c.args.at _ c.walk.new.areas.sheet.now c.walk.new.areas.text.now
    (measured-is (kind_number c.args.asked.kind) (lent c.args.context.now) c.args.at c.requires.1 c.in_ok-sections.ensures.written)

pub returns-in_err-sizes-in-Read-clause-written : goal.returns-in_err-sizes-in-Read-clause-written
returns-in_err-sizes-in-Read-clause-written c = rw (handed_on c.from_residual-in_err-sizes-in-Read.result c.from_residual-in_err-sizes-in-Read.ensures.1) (reply_answered c.args.asked _ c.args.areas.now.sheet.now c.write_in.new.areas.sheet.now c.args.areas.now.text.now c.write_in.new.areas.text.now _ c.in-Read.is c.in_err-sizes-in-Read.ensures.written refl)

pub returns-in_ok-sizes-in-Read-clause-written : goal.returns-in_ok-sizes-in-Read-clause-written
returns-in_ok-sizes-in-Read-clause-written c = reply_answered c.args.asked _ c.args.areas.now.sheet.now c.write_in.new.areas.sheet.now c.args.areas.now.text.now c.write_in.new.areas.text.now (Ok c.without_lists.result) c.in-Read.is c.in_ok-sizes-in-Read.ensures.written (ap Ok c.without_lists.ensures.0)

pub returns-in-Room-clause-written : goal.returns-in-Room-clause-written
returns-in-Room-clause-written c =
    reply_room c.args.asked _ c.args.areas.now.sheet.now c.args.areas.now.text.now (Ok c.told_room.result) c.in-Room.is
    (measured_room (kind_number c.args.asked.kind) (lent c.args.context.now) c.args.at _ c.walk.new.areas.sheet.now c.walk.new.areas.text.now
    (measured-is (kind_number c.args.asked.kind) (lent c.args.context.now) c.args.at c.requires.1 c.in_ok-sections.ensures.written) c.told_room.result c.told_room.ensures.0 c.told_room.ensures.1)
