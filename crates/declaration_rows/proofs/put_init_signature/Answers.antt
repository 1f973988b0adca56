use mathlib.Core.Path.{sym, ◌∙◌}
use mathlib.Core.Option.{some}
use mathlib.Core.List.{[], ◌∷◌}
use native.Mathlib.Omega.{arith}
use Rattle.names.specs.told.Name.{named_text}
use Rattle.foundation.specs.Texts.{ascii}
use Rattle.declaration_rows.specs.Rows.{name_cell}
use Rattle.declaration_rows.proofs.WrittenLaws.{own_else, fallen_else, cells_next, init_name_small, room_within, cells-room}
use Rattle.declaration_rows.proofs.put_init_signature.Goals as goal

pub returns-then-is_some-clause-written : goal.returns-then-is_some-clause-written
returns-then-is_some-clause-written c = let a = c.args in rw (own_else a.context.now.payload.now a.context.now.d2.now a.signature.name (ascii "<init>") (sym c.is_some.ensures ∙ c.if-is_some.true)) c.put_signature.ensures.written

pub returns-in_default-clause-written : goal.returns-in_default-clause-written
returns-in_default-clause-written c = let a = c.args in rw (c.in_default.is, fallen_else a.context.now.payload.now a.context.now.d2.now a.signature.name (ascii "<init>") (sym c.is_some.ensures ∙ c.if-is_some.false)) c.put_unsigned.ensures.written

pub put_present-requires : goal.put_present-requires
put_present-requires c = room_within _ (omega arith) (cells-room (name_cell (some (ascii "<init>")) ∷ []) (init_name_small, tt) c.requires c.put_init.ensures.written)

pub returns-clause-written : goal.returns-clause-written
returns-clause-written c = let a = c.args in rw (c.in-Some.is, fallen_else a.context.now.payload.now a.context.now.d2.now a.signature.name (ascii "<init>") (sym c.is_some.ensures ∙ c.if-is_some.false)) (cells_next (name_cell (some (ascii "<init>")) ∷ []) (name_cell (some (named_text a.context.now.payload.now a.context.now.d2.now c.in-Some.descriptor)) ∷ []) c.put_init.ensures.written c.put_present.ensures.written)
