use mathlib.Core.Path.{sym, ap, ◌∙◌}
use Rattle.characters.specs.Characters.{from_utf8, from_utf16}
use Rattle.names.specs.told.Name.{predefined_list}
use Rattle.names.proofs.NameLaws.{source-payload, source-listed, source-units, sized_walked}
use Rattle.names.proofs.StreamLaws.{text_same, fits-same}
use Rattle.names.proofs.stream.put_walked.Goals as goal

pub put_text-requires : goal.put_text-requires
put_text-requires c =
    let a = c.args in
    let x = a.context.now in
    let e = source-payload x.payload.now x.d2.now a.name.source a.name.part c.in-Payload.is ∙ ap from_utf8 (sym c.part_of.ensures) in
    fits-same _ a.at (sized_walked a.name.size a.change e c.requires.0) c.requires.1

pub returns-in-Payload : goal.returns-in-Payload
returns-in-Payload c =
    let a = c.args in
    let x = a.context.now in
    let e = source-payload x.payload.now x.d2.now a.name.source a.name.part c.in-Payload.is ∙ ap from_utf8 (sym c.part_of.ensures) in
    text_same (sized_walked a.name.size a.change e c.requires.0) c.put_text.ensures

pub put_text-requires-in-Predefined : goal.put_text-requires-in-Predefined
unfolding predefined_list
put_text-requires-in-Predefined c =
    let a = c.args in
    let x = a.context.now in
    let e = source-listed x.payload.now x.d2.now a.name.source a.name.part c.in-Predefined.is ∙ ap from_utf8 (sym c.part_of-in-Predefined.ensures) in
    fits-same _ a.at (sized_walked a.name.size a.change e c.requires.0) c.requires.1

pub returns-in-Predefined : goal.returns-in-Predefined
unfolding predefined_list
returns-in-Predefined c =
    let a = c.args in
    let x = a.context.now in
    let e = source-listed x.payload.now x.d2.now a.name.source a.name.part c.in-Predefined.is ∙ ap from_utf8 (sym c.part_of-in-Predefined.ensures) in
    text_same (sized_walked a.name.size a.change e c.requires.0) c.put_text-in-Predefined.ensures

pub put_text-requires-in-D2 : goal.put_text-requires-in-D2
put_text-requires-in-D2 c =
    let a = c.args in
    let x = a.context.now in
    let e = source-units x.payload.now x.d2.now a.name.source a.name.part c.in-D2.is ∙ ap from_utf16 (sym c.part_of-in-D2.ensures) in
    fits-same _ a.at (sized_walked a.name.size a.change e c.requires.0) c.requires.1

pub returns-in-D2 : goal.returns-in-D2
returns-in-D2 c =
    let a = c.args in
    let x = a.context.now in
    let e = source-units x.payload.now x.d2.now a.name.source a.name.part c.in-D2.is ∙ ap from_utf16 (sym c.part_of-in-D2.ensures) in
    text_same (sized_walked a.name.size a.change e c.requires.0) c.put_text-in-D2.ensures
