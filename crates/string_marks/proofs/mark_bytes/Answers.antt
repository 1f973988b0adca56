use Rattle.inputs.specs.told.KindTold.{kind_number}
use Rattle.schema.specs.told.SchemaTold.{lent_of}
use Rattle.passes.proofs.JoinedLaws.{deepest-lent}
use Rattle.string_marks.proofs.UsedLaws.{payload-marks, joined-marks, joined_in, unopened-marks}
use Rattle.string_marks.proofs.mark_bytes.Goals as goal

pub open_joined-requires : goal.open_joined-requires
open_joined-requires c = c.requires.0.d2-short

pub returns-in_default : goal.returns-in_default
returns-in_default c =
    let u = c.args.units.now in
    unopened-marks (kind_number c.args.kind) u.d2.now u.ends.now c.open_joined.ensures.joined c.open_joined.new.notes c.in_default.field-0 c.in_default.ensures.opened c.requires.0 c.open_joined.auto.notes c.requires.1 c.args.used.now c.args.used.now

pub returns : goal.returns
returns c =
    let u = c.args.units.now in
    let k = kind_number c.args.kind in
    let b = c.open_joined.new.bytes in
    let o = c.open_joined.ensures in
    joined-marks k u.d2.now u.ends.now o.joined c.args.used.now c.mark_body.new.used
    (payload-marks k (lent_of b c.deepest_of-deepest.result.now u.d2.now u.ends.now c.open_joined.new.notes c.in-Ok.opened.tables) c.in-Ok.opened.at
    (deepest-lent c.in-Ok.ensures.opened _ c.deepest_of-deepest.ensures) (joined_in k u.d2.now u.ends.now o.joined c.requires.0)
    c.args.used.now c.mark_body.new.used (rw (c.rest.ensures.0, c.rest.ensures.1) at c.mark_body.ensures))
