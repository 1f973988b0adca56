use mathlib.Core.Path.{ap, sym, ◌∙◌}
use Rattle.characters.specs.Characters.{from_utf16}
use Rattle.std.proofs.lemmas.Bool.{eqb-false}
use Rattle.characters.proofs.UnitLaws.{utf16-next}
use Rattle.descriptors.proofs.ErasedLaws.{not_listed}
use Rattle.descriptors.proofs.erased.may_be_listed.Goals as goal

pub returns-clause-listed : goal.returns-clause-listed
returns-clause-listed c = λ payload e. not_listed payload c.args.d2.now c.args.name c.in-D2.is c.change_of.ensures (ap from_utf16 (sym c.part_of.ensures) ∙ utf16-next c.part_of.result.now 0 (sym c.utf16_at.ensures ∙ c.in-Some.is)) c.character_of.ensures (eqb-false c.character_of.result 0x6b e)
