use mathlib.Core.List.{◌++◌}
use native.Mathlib.Omega.{arith}
use Rattle.declaration_rows.specs.Rows.{signature_cells}
use Rattle.declaration_rows.specs.told.Written.{signature_by}
use Rattle.declaration_rows.proofs.WrittenLaws.{cells_next, room_within, cells-room, signature-small}
use Rattle.declaration_rows.proofs.put_property_signatures.Goals as goal

pub put_signature-requires : goal.put_signature-requires
put_signature-requires c = room_within _ (omega arith) c.requires

pub put_signature-requires-2 : goal.put_signature-requires-2
put_signature-requires-2 c = let a = c.args in room_within _ (omega arith) (cells-room (signature_cells (signature_by a.context.now.payload.now a.context.now.d2.now a.field)) (signature-small c.requires a.field) c.requires c.put_signature.ensures.written)

pub put_signature-requires-3 : goal.put_signature-requires-3
put_signature-requires-3 c = let a = c.args in let r = cells-room (signature_cells (signature_by a.context.now.payload.now a.context.now.d2.now a.field)) (signature-small c.requires a.field) c.requires c.put_signature.ensures.written in room_within _ (omega arith) (cells-room (signature_cells (signature_by a.context.now.payload.now a.context.now.d2.now a.getter)) (signature-small r a.getter) r c.put_signature-2.ensures.written)

pub returns-clause-written : goal.returns-clause-written
returns-clause-written c = let a = c.args in cells_next (signature_cells (signature_by a.context.now.payload.now a.context.now.d2.now a.field) ++ signature_cells (signature_by a.context.now.payload.now a.context.now.d2.now a.getter)) (signature_cells (signature_by a.context.now.payload.now a.context.now.d2.now a.setter)) (cells_next (signature_cells (signature_by a.context.now.payload.now a.context.now.d2.now a.field)) (signature_cells (signature_by a.context.now.payload.now a.context.now.d2.now a.getter)) c.put_signature.ensures.written c.put_signature-2.ensures.written) c.put_signature-3.ensures.written
