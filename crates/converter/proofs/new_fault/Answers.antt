use mathlib.Core.Path.{ap, ◌∙◌}
use Rattle.std.proofs.lemmas.Result.{err_from_is_err_and}
use Rattle.converter.specs.told.ConversionTold.{checked_told}
use Rattle.converter.proofs.FaultLaws.{sized, no_fault, new-sized, new-unmarked, new-alone, new-byte, new-ones, new-other}
use Rattle.converter.proofs.new_fault.Goals as goal

pub returns-in_err-some_units : goal.returns-in_err-some_units
returns-in_err-some_units c =
    let p = err_from_is_err_and c.from_residual.result c.from_residual.ensures.1 in
    rw (p.1, p.2) (new-sized _ (c.some_units.ensures ∙ ap checked_told c.in_err-some_units.was))

pub returns-then-d1-ne-BYTE_STRING_MARKER : goal.returns-then-d1-ne-BYTE_STRING_MARKER
returns-then-d1-ne-BYTE_STRING_MARKER c =
    let s = sized c.args.d1.now (c.some_units.ensures ∙ ap checked_told c.in_ok-some_units.was) in
    new-unmarked _ s.0 s.1 c.if-d1-ne-BYTE_STRING_MARKER.true

pub returns-then-d1-eq1 : goal.returns-then-d1-eq1
returns-then-d1-eq1 c =
    let s = sized c.args.d1.now (c.some_units.ensures ∙ ap checked_told c.in_ok-some_units.was) in
    new-alone _ s.0 s.1 c.if-d1-ne-BYTE_STRING_MARKER.false c.if-d1-eq1.true

pub returns-in_err-only_bytes : goal.returns-in_err-only_bytes
returns-in_err-only_bytes c =
    let s = sized c.args.d1.now (c.some_units.ensures ∙ ap checked_told c.in_ok-some_units.was) in
    let p = err_from_is_err_and c.from_residual-in_err-only_bytes.result c.from_residual-in_err-only_bytes.ensures.1 in
    rw (p.1, p.2)
    (new-byte _ s.0 s.1 c.if-d1-ne-BYTE_STRING_MARKER.false c.if-d1-eq1.false (c.only_bytes.ensures ∙ ap checked_told c.in_err-only_bytes.was))

pub returns-then-d1-eq127 : goal.returns-then-d1-eq127
returns-then-d1-eq127 c =
    let d1 = c.args.d1.now in
    let s = sized d1 (c.some_units.ensures ∙ ap checked_told c.in_ok-some_units.was) in
    let b = no_fault d1 (c.only_bytes.ensures ∙ ap checked_told c.in_ok-only_bytes.was) in
    new-ones d1 s.0 s.1 c.if-d1-ne-BYTE_STRING_MARKER.false c.if-d1-eq1.false b c.if-d1-eq127.true

pub returns : goal.returns
returns c =
    let d1 = c.args.d1.now in
    let s = sized d1 (c.some_units.ensures ∙ ap checked_told c.in_ok-some_units.was) in
    let b = no_fault d1 (c.only_bytes.ensures ∙ ap checked_told c.in_ok-only_bytes.was) in
    new-other d1 s.0 s.1 c.if-d1-ne-BYTE_STRING_MARKER.false c.if-d1-eq1.false b c.if-d1-eq127.false
