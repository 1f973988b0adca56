use mathlib.Core.List.{[], ◌∷◌}
use native.Mathlib.Omega.{arith}
use Rattle.sheet.specs.Rows.{num}
use Rattle.names.specs.told.Name.{name_text}
use Rattle.declaration_rows.specs.Rows.{name_cell}
use Rattle.declaration_rows.proofs.WrittenLaws.{head-next, room_within, head-room, cells-room, name-small}
use Rattle.declaration_rows.proofs.put_head.Goals as goal

pub put_wide-requires : goal.put_wide-requires
put_wide-requires c = let r = head-room [] tt c.requires 1 c.put_kind.ensures.written in (omega arith, omega (arith, r.places))

pub put_named-requires : goal.put_named-requires
put_named-requires c = let a = c.args in let r = head-room [] tt c.requires 1 c.put_kind.ensures.written in room_within _ (omega arith) (cells-room (num 1 c.from.result ∷ []) (omega arith, tt) r c.put_wide.ensures.written)

pub put_wide-requires-2 : goal.put_wide-requires-2
put_wide-requires-2 c = let a = c.args in let n = name_cell (name_text a.context.now.payload.now a.context.now.d2.now a.name) in let r = head-room [] tt c.requires 1 c.put_kind.ensures.written in let q = cells-room (num 1 c.from.result ∷ []) (omega arith, tt) r c.put_wide.ensures.written in let t = cells-room (n ∷ []) (name-small q a.name, tt) q c.put_named.ensures.written in (omega arith, omega (arith, t.places))

pub returns-clause-written : goal.returns-clause-written
returns-clause-written c = let a = c.args in let n = name_cell (name_text a.context.now.payload.now a.context.now.d2.now a.name) in let k = num 1 c.from.result in rw (← c.from.ensures) (head-next 1 (k ∷ n ∷ []) (num 8 a.flags ∷ []) (head-next 1 (k ∷ []) (n ∷ []) (head-next 1 [] (k ∷ []) c.put_kind.ensures.written c.put_wide.ensures.written) c.put_named.ensures.written) c.put_wide-2.ensures.written)
