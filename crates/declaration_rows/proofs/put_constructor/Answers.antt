use mathlib.Core.List.{[], ◌∷◌}
use native.Mathlib.Omega.{arith}
use Rattle.sheet.specs.Rows.{num}
use Rattle.declaration_rows.specs.Rows.{signature_cells}
use Rattle.declaration_rows.specs.told.Written.{init_by}
use Rattle.declaration_rows.proofs.WrittenLaws.{head-next, room_within, head-room, cells-room}
use Rattle.declaration_rows.proofs.put_constructor.Goals as goal

pub put_wide-requires : goal.put_wide-requires
put_wide-requires c = let r = head-room [] tt c.requires 2 c.put_kind.ensures.written in (omega arith, omega (arith, r.places))

pub put_init_signature-requires : goal.put_init_signature-requires
put_init_signature-requires c = let r = head-room [] tt c.requires 2 c.put_kind.ensures.written in room_within _ (omega arith) (cells-room (num 8 c.args.flags ∷ []) (omega arith, tt) r c.put_wide.ensures.written)

pub returns-clause-written : goal.returns-clause-written
returns-clause-written c = let a = c.args in let s = init_by a.context.now.payload.now a.context.now.d2.now a.signature in head-next 2 (num 8 a.flags ∷ []) (signature_cells s) (head-next 2 [] (num 8 a.flags ∷ []) c.put_kind.ensures.written c.put_wide.ensures.written) c.put_init_signature.ensures.written
