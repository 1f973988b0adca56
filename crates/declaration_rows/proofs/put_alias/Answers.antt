use mathlib.Core.List.{[], ◌∷◌}
use native.Mathlib.Omega.{arith}
use Rattle.sheet.specs.Rows.{num}
use Rattle.names.specs.told.Name.{name_text}
use Rattle.declaration_rows.specs.Rows.{name_cell}
use Rattle.sheet.proofs.PutLaws.{row_done}
use Rattle.declaration_rows.proofs.WrittenLaws.{head-next, room_within, head-room, cells-room, name-small}
use Rattle.declaration_rows.proofs.put_alias.Goals as goal

pub put_named-requires : goal.put_named-requires
put_named-requires c = let r = head-room [] tt c.requires 8 c.put_kind.ensures.written in room_within _ (omega arith) r

pub put_wide-requires : goal.put_wide-requires
put_wide-requires c = let a = c.args in let n = name_cell (name_text a.context.now.payload.now a.context.now.d2.now a.name) in let r = head-room [] tt c.requires 8 c.put_kind.ensures.written in let t = cells-room (n ∷ []) (name-small r a.name, tt) r c.put_named.ensures.written in (omega arith, omega (arith, t.places))

pub returns-clause-written : goal.returns-clause-written
returns-clause-written c = let a = c.args in let n = name_cell (name_text a.context.now.payload.now a.context.now.d2.now a.name) in let f = num 8 a.flags in row_done 8 (n ∷ f ∷ []) (head-next 8 (n ∷ []) (f ∷ []) (head-next 8 [] (n ∷ []) c.put_kind.ensures.written c.put_named.ensures.written) c.put_wide.ensures.written)
