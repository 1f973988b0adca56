use native.Mathlib.Omega.{arith}
use Rattle.declarations.proofs.PayloadLaws.{noted_then}
use Rattle.declarations.proofs.payload.open_noted.Goals as goal

pub returns : goal.returns
returns c = noted_then c.args.bytes.now c.args.rest c.args.count c.args.notes.now c.resolve.new.notes c.resolve.ensures (omega (arith, c.resolve.auto.notes)) c.open_body.new.entries c.open_body.auto.entries c.open_body.result c.open_body.ensures
