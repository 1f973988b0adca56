use mathlib.Core.Option.{some}
use mathlib.Core.List.{[], ◌∷◌}
use native.Mathlib.Omega.{arith}
use Rattle.names.specs.told.Name.{named_text}
use Rattle.declaration_rows.specs.Rows.{name_cell}
use Rattle.declaration_rows.proofs.WrittenLaws.{cells_next, room_within, cells-room, present-small}
use Rattle.declaration_rows.proofs.put_signature.Goals as goal
use Rattle.declaration_rows.proofs.put_signature.Goals.{in_default-via-in-Some+in_default, in_default-via-in_default}

pub returns-in_default-clause-written : goal.returns-in_default-clause-written
returns-in_default-clause-written c =
    elim c.in_default.branch [
      | in_default-via-in-Some+in_default w ↦ rw (w.in_default.is-0, w.in_default.is-1) c.put_unsigned.ensures.written
      | in_default-via-in_default w ↦ rw w.in_default.is-0 c.put_unsigned.ensures.written
    ]

pub put_present-requires-2 : goal.put_present-requires-2
put_present-requires-2 c = let a = c.args in room_within _ (omega arith) (cells-room (name_cell (some (named_text a.context.now.payload.now a.context.now.d2.now c.in-Some-Some.name)) ∷ []) (present-small c.requires c.in-Some-Some.name, tt) c.requires c.put_present.ensures.written)

pub returns-clause-written : goal.returns-clause-written
returns-clause-written c = let a = c.args in rw (c.in-Some-Some.is-0, c.in-Some-Some.is-1) (cells_next (name_cell (some (named_text a.context.now.payload.now a.context.now.d2.now c.in-Some-Some.name)) ∷ []) (name_cell (some (named_text a.context.now.payload.now a.context.now.d2.now c.in-Some-Some.descriptor)) ∷ []) c.put_present.ensures.written c.put_present-2.ensures.written)
