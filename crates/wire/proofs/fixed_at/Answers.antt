use Rattle.wire.proofs.FieldLaws.{fixed-past, fixed-there}
use Rattle.wire.proofs.fixed_at.Goals as goal

pub returns-then-s-at : goal.returns-then-s-at
returns-then-s-at c =
    let a = c.args in
    fixed-past _ a.s.bytes.now a.at _ c.if-s-at.true

pub returns : goal.returns
returns c =
    let a = c.args in
    (fixed-there _ a.s.bytes.now a.at _ c.if-s-at.false c.fixed_number-number.ensures, tt)
