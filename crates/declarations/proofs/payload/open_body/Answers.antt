use Rattle.foundation.proofs.ErrorLaws.{handed_on}
use Rattle.declarations.proofs.PayloadLaws.{body_refused, body_unnoted, body_open}
use Rattle.declarations.proofs.payload.open_body.Goals as goal

pub returns-in_err-check : goal.returns-in_err-check
returns-in_err-check c = rw (handed_on c.from_residual.result c.from_residual.ensures.1) (body_refused c.args.bytes.now c.args.at c.args.records c.args.entries.now _ (rw (c.rest.ensures.0, c.rest.ensures.1) at c.in_err-check.ensures))

pub returns-in_err-types : goal.returns-in_err-types
returns-in_err-types c = let m = rw (c.rest.ensures.0, c.rest.ensures.1) at c.in_ok-check.ensures in rw (handed_on c.from_residual-in_err-types.result c.from_residual-in_err-types.ensures.1) (body_unnoted c.args.bytes.now c.args.at c.args.records c.index_types.new.notes m.0 m.1 _ c.in_err-types.ensures)

pub returns : goal.returns
returns c = let m = rw (c.rest.ensures.0, c.rest.ensures.1) at c.in_ok-check.ensures in body_open c.args.bytes.now c.args.at c.args.records c.index_types.new.notes m.0 m.1 _ c.in_ok-types.ensures
