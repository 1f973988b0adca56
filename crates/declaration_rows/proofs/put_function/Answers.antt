use mathlib.Core.List.{[], ◌∷◌}
use native.Mathlib.Omega.{arith}
use Rattle.sheet.specs.Rows.{num, bit}
use Rattle.names.specs.told.Name.{name_text}
use Rattle.declaration_rows.specs.Rows.{name_cell, signature_cells}
use Rattle.declaration_rows.specs.told.Written.{signature_by}
use Rattle.declaration_rows.proofs.WrittenLaws.{head-next, room_within, head-room, cells-room, name-small, signature-small}
use Rattle.declaration_rows.proofs.put_function.Goals as goal

pub put_named-requires : goal.put_named-requires
put_named-requires c = let r = head-room [] tt c.requires 3 c.put_kind.ensures.written in room_within _ (omega arith) r

pub put_wide-requires : goal.put_wide-requires
put_wide-requires c = let a = c.args in let n = name_cell (name_text a.context.now.payload.now a.context.now.d2.now a.name) in let r = head-room [] tt c.requires 3 c.put_kind.ensures.written in let t = cells-room (n ∷ []) (name-small r a.name, tt) r c.put_named.ensures.written in (omega arith, omega (arith, t.places))

pub put_signature-requires : goal.put_signature-requires
put_signature-requires c = let a = c.args in let n = name_cell (name_text a.context.now.payload.now a.context.now.d2.now a.name) in let r = head-room [] tt c.requires 3 c.put_kind.ensures.written in let t = cells-room (n ∷ []) (name-small r a.name, tt) r c.put_named.ensures.written in let u = cells-room (num 8 a.flags ∷ []) (omega arith, tt) t c.put_wide.ensures.written in room_within _ (omega arith) u

pub put_flag-requires : goal.put_flag-requires
put_flag-requires c = let a = c.args in let n = name_cell (name_text a.context.now.payload.now a.context.now.d2.now a.name) in let r = head-room [] tt c.requires 3 c.put_kind.ensures.written in let t = cells-room (n ∷ []) (name-small r a.name, tt) r c.put_named.ensures.written in let u = cells-room (num 8 a.flags ∷ []) (omega arith, tt) t c.put_wide.ensures.written in let s = signature_by a.context.now.payload.now a.context.now.d2.now a.signature in let v = cells-room (signature_cells s) (signature-small u a.signature) u c.put_signature.ensures.written in omega (arith, v.places)

pub returns-clause-written : goal.returns-clause-written
returns-clause-written c = let a = c.args in let n = name_cell (name_text a.context.now.payload.now a.context.now.d2.now a.name) in let s = signature_by a.context.now.payload.now a.context.now.d2.now a.signature in let f = num 8 a.flags in head-next 3 (n ∷ f ∷ signature_cells s) (bit a.receiver ∷ []) (head-next 3 (n ∷ f ∷ []) (signature_cells s) (head-next 3 (n ∷ []) (f ∷ []) (head-next 3 [] (n ∷ []) c.put_kind.ensures.written c.put_named.ensures.written) c.put_wide.ensures.written) c.put_signature.ensures.written) c.put_flag.ensures.written
