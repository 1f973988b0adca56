use mathlib.Core.List.{[], ◌∷◌, ◌++◌}
use native.Mathlib.Omega.{arith}
use Rattle.names.specs.told.Name.{name_text}
use Rattle.declaration_rows.specs.Rows.{name_cell}
use Rattle.declaration_rows.specs.told.Written.{signature_by, property_flags, property_signatures}
use Rattle.sheet.proofs.PutLaws.{row_done}
use Rattle.declaration_rows.proofs.WrittenLaws.{head-next, room_within, head-room, cells-room, name-small}
use Rattle.declaration_rows.proofs.put_property.Goals as goal

pub put_named-requires : goal.put_named-requires
put_named-requires c = let r = head-room [] tt c.requires 4 c.put_kind.ensures.written in room_within _ (omega arith) r

pub put_property_flags-requires : goal.put_property_flags-requires
put_property_flags-requires c = let a = c.args in let n = name_cell (name_text a.context.now.payload.now a.context.now.d2.now a.name) in let r = head-room [] tt c.requires 4 c.put_kind.ensures.written in let t = cells-room (n ∷ []) (name-small r a.name, tt) r c.put_named.ensures.written in omega (arith, t.places)

pub put_property_signatures-requires : goal.put_property_signatures-requires
put_property_signatures-requires c = let a = c.args in let n = name_cell (name_text a.context.now.payload.now a.context.now.d2.now a.name) in let r = head-room [] tt c.requires 4 c.put_kind.ensures.written in let t = cells-room (n ∷ []) (name-small r a.name, tt) r c.put_named.ensures.written in let f = property_flags a.flags.word a.flags.receiver a.flags.getter a.flags.setter in room_within _ (omega arith) (cells-room f (omega arith, (omega arith, (omega arith, (omega arith, tt)))) t c.put_property_flags.ensures.written)

pub returns-clause-written : goal.returns-clause-written
returns-clause-written c = let a = c.args in let n = name_cell (name_text a.context.now.payload.now a.context.now.d2.now a.name) in let f = property_flags a.flags.word a.flags.receiver a.flags.getter a.flags.setter in let g = property_signatures (signature_by a.context.now.payload.now a.context.now.d2.now a.field) (signature_by a.context.now.payload.now a.context.now.d2.now a.getter) (signature_by a.context.now.payload.now a.context.now.d2.now a.setter) in row_done 4 (n ∷ (f ++ g)) (head-next 4 (n ∷ f) g (head-next 4 (n ∷ []) f (head-next 4 [] (n ∷ []) c.put_kind.ensures.written c.put_named.ensures.written) c.put_property_flags.ensures.written) c.put_property_signatures.ensures.written)
