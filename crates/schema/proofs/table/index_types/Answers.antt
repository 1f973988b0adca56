use mathlib.Core.Path.{ap, ◌∙◌}
use Rattle.std.specs.declared.result.Result.TheVariants.{Ok}
use Rattle.foundation.proofs.ErrorLaws.{handed_on}
use Rattle.schema.proofs.TableLaws.{index_none, index-refused, index-inline}
use Rattle.schema.proofs.table.index_types.Goals as goal

pub returns-in_err-table : goal.returns-in_err-table
returns-in_err-table c = rw (handed_on _ c.from_residual.ensures.1) λ m k. index-refused c.args.payload.now c.args.at c.args.number c.args.notes.now m k (rw (c.rest.ensures.0, c.rest.ensures.1) at c.message.ensures) c.in_err-table.was

pub returns-in_default : goal.returns-in_default
returns-in_default c = λ m k. index_none c.args.payload.now c.args.at c.args.number c.args.notes.now m k (rw (c.rest.ensures.0, c.rest.ensures.1) at c.message.ensures) (c.in_ok-table.was ∙ ap Ok c.in_default.is)

pub returns : goal.returns
returns c = λ m k. index-inline c.args.payload.now c.args.at c.args.number c.note_table.new.notes m k (rw (c.rest.ensures.0, c.rest.ensures.1) at c.message.ensures) (c.in_ok-table.was ∙ ap Ok c.in-Some.is) c.note_table.result c.moved.ensures c.note_table.ensures
