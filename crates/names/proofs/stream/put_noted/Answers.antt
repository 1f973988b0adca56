use mathlib.Core.Path.{refl, sym, ap, ◌∙◌}
use Rattle.characters.specs.Characters.{from_utf8, from_utf16}
use Rattle.names.specs.told.Name.{predefined_list}
use Rattle.names.proofs.NameLaws.{source-payload, source-listed, source-units}
use Rattle.names.proofs.MeasuredLaws.{noted-past, noted-put}
use Rattle.names.proofs.stream.put_noted.Goals as goal

pub returns-then-area-at : goal.returns-then-area-at
returns-then-area-at c = let a = c.args in noted-past a.name.size a.change c.requires.0 refl a.at c.if-area-at.true

pub returns-in-Payload : goal.returns-in-Payload
returns-in-Payload c =
    let a = c.args in
    let x = a.context.now in
    let e = source-payload x.payload.now x.d2.now a.name.source a.name.part c.in-Payload.is ∙ ap from_utf8 (sym c.part_of.ensures) in
    noted-put a.name.size a.change c.requires.0 e a.at c.put_measured.ensures

pub returns-in-Predefined : goal.returns-in-Predefined
unfolding predefined_list
returns-in-Predefined c =
    let a = c.args in
    let x = a.context.now in
    let e = source-listed x.payload.now x.d2.now a.name.source a.name.part c.in-Predefined.is ∙ ap from_utf8 (sym c.part_of-in-Predefined.ensures) in
    noted-put a.name.size a.change c.requires.0 e a.at c.put_measured-in-Predefined.ensures

pub returns-in-D2 : goal.returns-in-D2
returns-in-D2 c =
    let a = c.args in
    let x = a.context.now in
    let e = source-units x.payload.now x.d2.now a.name.source a.name.part c.in-D2.is ∙ ap from_utf16 (sym c.part_of-in-D2.ensures) in
    noted-put a.name.size a.change c.requires.0 e a.at c.put_measured-in-D2.ensures
