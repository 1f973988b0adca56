use mathlib.Core.Path.{refl}
use Rattle.record_names.proofs.WordLaws.{words-told}
use Rattle.record_names.proofs.note.words_of.Goals as goal

pub returns : goal.returns
returns c =
    let a = c.args in
    rw (c.from.ensures, c.from-2.ensures, c.from-3.ensures, c.number.ensures, c.source_kind.ensures, c.noted_place.ensures, c.noted_place-2.ensures)
    (words-told a.name a.class _ _ c.requires.0 c.requires.1 c.requires.2 refl refl)
