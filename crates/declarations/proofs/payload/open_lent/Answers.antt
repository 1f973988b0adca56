use Rattle.foundation.proofs.ErrorLaws.{handed_on}
use native.Mathlib.Omega.{arith}
use lib.ListN.{length-take}
use Rattle.lookup.proofs.StringLaws.{codes_inside}
use Rattle.declarations.proofs.PayloadLaws.{lent-body, lent_stopped}
use Rattle.declarations.proofs.payload.open_lent.Goals as goal

pub slice_bounds-open_payload-end : goal.slice_bounds-open_payload-end
slice_bounds-open_payload-end c = codes_inside _ c.codes_from-limit.ensures

pub slice_bounds-open_payload-end-2 : goal.slice_bounds-open_payload-end-2
slice_bounds-open_payload-end-2 c = let h = codes_inside _ c.codes_from-limit.ensures in simp length-take (omega arith)

pub returns-in_err-opened : goal.returns-in_err-opened
returns-in_err-opened c = rw (handed_on c.from_residual.result c.from_residual.ensures.1) (lent_stopped c.args.bytes.now c.args.units.now.d2.now c.args.units.now.ends.now c.args.notes.now c.codes_from-limit.result c.codes_from-limit.ensures c.open_payload.new.notes c.open_payload.auto.notes _ c.in_err-opened.ensures)

pub returns : goal.returns
returns c = lent-body c.args.bytes.now c.args.units.now.d2.now c.args.units.now.ends.now c.args.notes.now c.codes_from-limit.result c.codes_from-limit.ensures c.open_payload.new.notes c.open_payload.auto.notes _ c.in_ok-opened.ensures c.note_codes.new.notes c.note_strings.new.notes c.note_codes.ensures c.note_strings.ensures.0 c.note_strings.ensures.1
