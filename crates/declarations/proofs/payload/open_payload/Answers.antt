use Rattle.foundation.proofs.ErrorLaws.{handed_on}
use Rattle.declarations.proofs.PayloadLaws.{payload-refused, payload_too_long}
use Rattle.declarations.proofs.payload.open_payload.Goals as goal

pub returns-then-bytes-gt65535 : goal.returns-then-bytes-gt65535
returns-then-bytes-gt65535 c = payload_too_long c.args.bytes.now c.args.notes.now c.if-bytes-gt65535.true

pub returns-in_err-parts : goal.returns-in_err-parts
returns-in_err-parts c = rw (handed_on c.from_residual.result c.from_residual.ensures.1) (payload-refused c.args.bytes.now c.args.notes.now _ c.in_err-parts.ensures)
