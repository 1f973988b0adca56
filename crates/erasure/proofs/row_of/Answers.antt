use mathlib.Core.Path.{refl}
use Rattle.characters.specs.Characters.{utf8, utf8_of}
use Rattle.erasure.specs.told.ErasureTold.{row_at, listed_name}
use Rattle.erasure.proofs.ListedLaws.{hashed, row_with, too_short, too_long, no_kotlin, hashed-row, row_below}
use Rattle.erasure.proofs.row_of.Goals as goal
use Rattle.erasure.proofs.row_of.Goals.{then-n-lt8-via-then-n-lt8, then-n-lt8-via-else-n-lt8+then-n-gt36, then-n-lt8-via-else-n-lt8+else-n-gt36+then-name-ne107}

pub returns-then-n-lt8 : goal.returns-then-n-lt8
returns-then-n-lt8 c = elim c.then-n-lt8.branch [
  | then-n-lt8-via-then-n-lt8 w ↦ too_short w.if-n-lt8.true
  | then-n-lt8-via-else-n-lt8+then-n-gt36 w ↦ too_long w.if-n-gt36.true
  | then-n-lt8-via-else-n-lt8+else-n-gt36+then-name-ne107 w ↦ no_kotlin w.if-name-ne107.true
]

pub returns : goal.returns
unfolding hashed row_with row_at listed_name utf8 utf8_of
returns c = rw c.then_some.ensures (row_below c.args.name.now _ _ refl (hashed-row c.args.name.now c.from.ensures c.from-2.ensures c.from-row.ensures))
