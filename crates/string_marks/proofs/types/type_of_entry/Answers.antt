use native.Mathlib.Nat.{zero-add}
use Rattle.schema.specs.told.SchemaTold.{lent}
use Rattle.string_marks.proofs.TypeMarks.{entry-too-deep, entry-absent, entry-found}
use Rattle.string_marks.proofs.types.type_of_entry.Goals as goal

pub returns-then-left-eq0 : goal.returns-then-left-eq0
returns-then-left-eq0 c = entry-too-deep (lent c.args.context.now) c.args.index c.args.left c.if-left-eq0.true

pub returns-in_err-entry : goal.returns-in_err-entry
returns-in_err-entry c = rw c.from_residual.ensures (entry-absent (lent c.args.context.now) c.args.index c.args.left c.entry_at.ensures c.in_err-entry.was)

pub returns : goal.returns
returns c = entry-found (lent c.args.context.now) c.args.index c.args.left c.entry_at.ensures c.in_ok-entry.was c.if-left-eq0.false c.inner_at.result (rw (c.whole-payload.ensures.0, c.whole-payload.ensures.1, zero-add) at c.inner_at.ensures)
