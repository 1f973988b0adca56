use mathlib.Core.Path.{ap, ◌∙◌}
use Rattle.std.proofs.lemmas.Result.{err_from_is_err_and}
use Rattle.converter.specs.told.ConversionTold.{checked_told}
use Rattle.converter.proofs.FaultLaws.{sized, old-sized, old-marked, old-bytes}
use Rattle.converter.proofs.old_fault.Goals as goal

pub returns-in_err-some_units : goal.returns-in_err-some_units
returns-in_err-some_units c =
    let p = err_from_is_err_and c.from_residual.result c.from_residual.ensures.1 in
    rw (p.1, p.2) (old-sized _ (c.some_units.ensures ∙ ap checked_told c.in_err-some_units.was))

pub returns-then-d1-eq-BYTE_STRING_MARKER : goal.returns-then-d1-eq-BYTE_STRING_MARKER
returns-then-d1-eq-BYTE_STRING_MARKER c =
    let s = sized c.args.d1.now (c.some_units.ensures ∙ ap checked_told c.in_ok-some_units.was) in
    old-marked _ s.0 s.1 c.if-d1-eq-BYTE_STRING_MARKER.true

pub returns : goal.returns
returns c =
    let s = sized c.args.d1.now (c.some_units.ensures ∙ ap checked_told c.in_ok-some_units.was) in
    old-bytes _ s.0 s.1 c.if-d1-eq-BYTE_STRING_MARKER.false ∙ c.only_bytes.ensures
