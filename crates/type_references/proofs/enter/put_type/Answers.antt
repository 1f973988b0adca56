use native.Mathlib.Omega.{arith}
use Rattle.names.specs.told.Name.{name_text}
use Rattle.declaration_rows.specs.Rows.{name_cell}
use Rattle.declaration_rows.proofs.WrittenLaws.{cell-sheet}
use Rattle.type_references.proofs.EnterLaws.{type_put}
use Rattle.type_references.proofs.enter.put_type.Goals as goal

pub overflow_add-out-2 : goal.overflow_add-out-2
overflow_add-out-2 c = let h = cell-sheet (name_cell (name_text c.args.context.now.payload.now c.args.context.now.d2.now c.args.name)) c.put_named.ensures.written in omega (arith, c.requires.0.room.sheet)

pub overflow_add-out-3 : goal.overflow_add-out-3
overflow_add-out-3 c = let h = cell-sheet (name_cell (name_text c.args.context.now.payload.now c.args.context.now.d2.now c.args.name)) c.put_named.ensures.written in omega (arith, c.requires.0.room.sheet)

pub returns-clause-written : goal.returns-clause-written
returns-clause-written c = rw (← c.number-2.ensures, ← c.number-3.ensures, ← c.from.ensures, ← c.from-2.ensures) (type_put c.from.result c.from-2.result c.args.nullable (name_text c.args.context.now.payload.now c.args.context.now.d2.now c.args.name) c.args.count c.args.out.now.state c.args.out.now.sheet.now c.args.out.now.text.now (rw c.number.ensures at c.put.ensures) c.put_number.ensures c.put_bit.ensures c.put_named.ensures.written c.put_number-2.ensures c.put_number-3.ensures)
