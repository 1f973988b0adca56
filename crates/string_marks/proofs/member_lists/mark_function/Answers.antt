use mathlib.Core.Path.{ap}
use Rattle.names.specs.told.Name.{named_text, name_text}
use Rattle.string_marks.proofs.ReadingLaws.{function-marks, function-nameless}
use Rattle.string_marks.proofs.member_lists.mark_function.Goals as goal

pub returns-in_default : goal.returns-in_default
returns-in_default c =
    let e = c.args.context.now in
    function-nameless (λ s. c.name_in.ensures _ s) (ap (name_text e.payload.now e.d2.now) c.in_default.is) c.mark_name.ensures

pub returns : goal.returns
returns c =
    let e = c.args.context.now in
    function-marks (named_text e.payload.now e.d2.now c.in-Some.field-0) (λ s. c.name_in.ensures _ s) (ap (name_text e.payload.now e.d2.now) c.in-Some.is) c.mark_name.ensures
    c.mark_parameters.ensures c.mark_declared.ensures c.mark_signature_in.ensures c.mark_declared-2.ensures
