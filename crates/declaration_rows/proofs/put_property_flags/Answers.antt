use mathlib.Core.List.{[], ◌∷◌}
use native.Mathlib.Omega.{arith}
use Rattle.sheet.specs.Rows.{num, bit}
use Rattle.declaration_rows.proofs.WrittenLaws.{cells_next, cell-sheet}
use Rattle.declaration_rows.proofs.put_property_flags.Goals as goal

pub put_flag-requires : goal.put_flag-requires
put_flag-requires c = let e = cell-sheet (num 8 c.args.flags.word) c.put_wide.ensures.written in omega (arith, c.requires)

pub put_flag-requires-2 : goal.put_flag-requires-2
put_flag-requires-2 c = let e = cell-sheet (num 8 c.args.flags.word) c.put_wide.ensures.written in let f = cell-sheet (bit c.args.flags.receiver) c.put_flag.ensures.written in omega (arith, c.requires)

pub put_flag-requires-3 : goal.put_flag-requires-3
put_flag-requires-3 c = let e = cell-sheet (num 8 c.args.flags.word) c.put_wide.ensures.written in let f = cell-sheet (bit c.args.flags.receiver) c.put_flag.ensures.written in let g = cell-sheet (bit c.args.flags.getter) c.put_flag-2.ensures.written in omega (arith, c.requires)

pub returns-clause-written : goal.returns-clause-written
returns-clause-written c = let a = c.args in let f = num 8 a.flags.word in let r = bit a.flags.receiver in let g = bit a.flags.getter in cells_next (f ∷ r ∷ g ∷ []) (bit a.flags.setter ∷ []) (cells_next (f ∷ r ∷ []) (g ∷ []) (cells_next (f ∷ []) (r ∷ []) c.put_wide.ensures.written c.put_flag.ensures.written) c.put_flag-2.ensures.written) c.put_flag-3.ensures.written
