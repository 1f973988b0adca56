use mathlib.Core.Path.{refl, sym, ◌∙◌}
use Rattle.names.proofs.NameLaws.{some-parts, name-none}
use Rattle.names.proofs.StreamLaws.{text_none, text_same, fits-same}
use Rattle.names.proofs.MeasuredLaws.{noted-fits}
use Rattle.names.proofs.stream.put_name.Goals as goal

pub returns-in_default : goal.returns-in_default
returns-in_default c = let a = c.args in text_none a.at a.area.now (name-none a.context.now.payload.now a.context.now.d2.now c.in_default.is a.slashes)

pub put_noted-requires : goal.put_noted-requires
put_noted-requires c =
    let a = c.args in
    let x = a.context.now in
    let m = sym c.is_measured.ensures ∙ c.if-is_measured.true in
    let e = some-parts x.payload.now x.d2.now c.in-Some.is a.slashes c.change_of-change.ensures in
    (m, noted-fits c.in-Some.name.size c.change_of-change.result m refl a.at _ (fits-same _ a.at (sym e) c.requires))

pub returns-then-is_measured : goal.returns-then-is_measured
returns-then-is_measured c =
    let a = c.args in
    let x = a.context.now in
    text_same (sym (some-parts x.payload.now x.d2.now c.in-Some.is a.slashes c.change_of-change.ensures)) c.put_noted.ensures

pub put_walked-requires : goal.put_walked-requires
put_walked-requires c =
    let a = c.args in
    let x = a.context.now in
    let e = some-parts x.payload.now x.d2.now c.in-Some.is a.slashes c.change_of-change.ensures in
    (sym c.is_measured.ensures ∙ c.if-is_measured.false, fits-same _ a.at (sym e) c.requires)

pub returns : goal.returns
returns c =
    let a = c.args in
    let x = a.context.now in
    text_same (sym (some-parts x.payload.now x.d2.now c.in-Some.is a.slashes c.change_of-change.ensures)) c.put_walked.ensures
