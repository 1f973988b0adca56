use Rattle.std.proofs.Common.{arith, sym, length-take-le}
use Rattle.line.proofs.TakenLaws.{default_nothing, first-so_far, gave_first, gave_rest}
use Rattle.line.proofs.stream.take_input.Goals as goal

pub slice_bounds-take_piece-end-2 : goal.slice_bounds-take_piece-end-2
slice_bounds-take_piece-end-2 g c = sym (length-take-le c.min-most.result c.args.area.now (omega arith))

pub take_piece-first-requires : goal.take_piece-first-requires
take_piece-first-requires g c =
    let size = length-take-le c.min-most.result c.args.area.now (omega arith) in
    ((omega arith, omega arith, omega arith), omega arith, omega (arith, size))

pub returns-then-begun-lt-KEPT : goal.returns-then-begun-lt-KEPT
returns-then-begun-lt-KEPT g c =
    let size = length-take-le c.min-most.result c.args.area.now (omega arith) in
    let p = rw (default_nothing c.default.result c.default.ensures) at c.take_piece-first.ensures in
    gave_first c.take_piece-first.new.area _ p (omega (arith, c.take_piece-first.auto.area, size))

pub pass_rest-requires : goal.pass_rest-requires
pass_rest-requires g c =
    let p = rw (default_nothing c.default.result c.default.ensures) at c.take_piece-first.ensures in
    ((_, first-so_far p.piece), omega arith)

pub returns : goal.returns
returns g c =
    let size = length-take-le c.min-most.result c.args.area.now (omega arith) in
    let p = rw (default_nothing c.default.result c.default.ensures) at c.take_piece-first.ensures in
    gave_rest c.take_piece-first.new.area _ p (omega (arith, c.take_piece-first.auto.area, size)) (omega (arith, c.if-begun-lt-KEPT.false)) c.pass_rest.ensures
