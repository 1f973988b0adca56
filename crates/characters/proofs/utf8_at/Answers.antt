use mathlib.Core.Path.{◌∙◌, sym, ap}
use native.Mathlib.Omega.{arith}
use Rattle.characters.specs.told.CharactersTold.{first_byte_told}
use Rattle.characters.proofs.RowLaws.{at-end, at_one, at_row, at-stray, leads-small}
use Rattle.characters.proofs.utf8_at.Goals as goal

pub returns-then-s-at : goal.returns-then-s-at
returns-then-s-at c = at-end c.args.s.now _ c.if-s-at.true

pub returns-then-byte-lt128 : goal.returns-then-byte-lt128
returns-then-byte-lt128 c = at_one c.args.s.now _ c.if-s-at.false c.from.ensures c.if-byte-lt128.true

pub returns-in_default : goal.returns-in_default
returns-in_default c = c.replaced.ensures ∙ at-stray c.args.s.now _ c.if-s-at.false (ap first_byte_told (sym c.in_default.is) ∙ c.first_byte.ensures)

pub go_on-requires : goal.go_on-requires
go_on-requires c =
    let f = c.in-Some.first in
    (leads-small _ f.following f.low f.high _ (ap first_byte_told (sym c.in-Some.is) ∙ c.first_byte.ensures), omega arith)

pub returns : goal.returns
returns c = c.go_on.ensures ∙ at_row c.args.s.now _ c.if-s-at.false (ap first_byte_told (sym c.in-Some.is) ∙ c.first_byte.ensures)
