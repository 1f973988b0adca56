use mathlib.Core.Path.{◌≡◌}
use mathlib.Core.List.{◌++◌}
use lib.ListN.{length, length-append, length-take, length-drop, drop}
use native.Mathlib.Omega.{arith}
use Rattle.std.proofs.lemmas.Result.{err_from_is_err_and}
use Rattle.passes.proofs.JoinedLaws.{frame-as-long}
use Rattle.passes.proofs.PassLaws.{decoded-inside, bytes-kept, bytes_read_lem, decode-stops}
use Rattle.passes.proofs.decode_in.Goals as goal

pub returns-in_err-length-clause-written : goal.returns-in_err-length-clause-written
returns-in_err-length-clause-written c =
    let p = err_from_is_err_and c.from_residual.result c.from_residual.ensures.1 in
    rw p.1 (decode-stops c.args.asked c.args.units.now.d1.now c.args.units.now.d2.now c.args.units.now.ends.now c.args.bytes.now c.decode.new.area c.decode.result c.requires c.decode.ensures _ c.in_err-length.was c.decode.auto.area c.args.notes.now c.args.areas.now.sheet.now c.args.areas.now.text.now p.0 p.2)

pub slice_bounds-open_in-end : goal.slice_bounds-open_in-end
slice_bounds-open_in-end c = decoded-inside c.args.asked c.args.units.now.d1.now c.args.units.now.d2.now c.args.units.now.ends.now c.args.bytes.now c.decode.new.area c.decode.result c.requires c.decode.ensures c.in_ok-length.was

pub slice_bounds-open_in-end-2 : goal.slice_bounds-open_in-end-2
slice_bounds-open_in-end-2 c = let h = decoded-inside c.args.asked c.args.units.now.d1.now c.args.units.now.d2.now c.args.units.now.ends.now c.args.bytes.now c.decode.new.area c.decode.result c.requires c.decode.ensures c.in_ok-length.was in simp length-take (omega arith)

pub open_in-requires : goal.open_in-requires
open_in-requires c = bytes-kept c.args.asked c.args.units.now.d1.now c.args.units.now.d2.now c.args.units.now.ends.now c.args.bytes.now c.decode.new.area c.decode.result c.requires c.decode.ensures c.in_ok-length.was

pub returns-clause-written : goal.returns-clause-written
returns-clause-written c =
    let a = c.args in
    let u = a.units.now in
    let n = c.in_ok-length.length in
    let area = c.decode.new.area in
    let o = c.open_in in
    let inside = decoded-inside a.asked u.d1.now u.d2.now u.ends.now a.bytes.now area c.decode.result c.requires c.decode.ensures c.in_ok-length.was in
    let whole : length (o.new.bytes ++ drop n area) ≡ length area = rw (length-append, o.auto.bytes, length-take, length-drop) (omega arith) in
    frame-as-long (o.new.bytes ++ drop n area) area whole a.asked _ u.d1.now o.new.notes o.result a.areas.now.sheet.now o.new.areas.sheet.now a.areas.now.text.now o.new.areas.text.now
    (bytes_read_lem a.asked u.d1.now u.d2.now u.ends.now a.bytes.now area c.decode.result c.requires c.decode.ensures c.in_ok-length.was o.new.notes o.result a.areas.now.sheet.now o.new.areas.sheet.now a.areas.now.text.now o.new.areas.text.now o.ensures.written)
