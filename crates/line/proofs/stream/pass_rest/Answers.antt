use Rattle.std.proofs.Common.{arith}
use Rattle.line.proofs.TakenLaws.{counts-fit, gave_none, gave_on, gave_end}
use Rattle.line.proofs.stream.pass_rest.Goals as goal

pub loop-taken-init : goal.loop-taken-init
loop-taken-init g c = gave_none _ _

pub pass_piece-next-requires : goal.pass_piece-next-requires
pass_piece-next-requires g c = (counts-fit (c.loop-taken.invariant.went.after c.requires.0.0 c.requires.0.1), omega arith)

pub returns-then-next-before : goal.returns-then-next-before
returns-then-next-before g c = gave_end c.loop-taken.invariant c.pass_piece-next.ensures (omega arith)

pub loop-taken-smaller : goal.loop-taken-smaller
loop-taken-smaller g c = omega (arith, c.pass_piece-next.ensures.over.piece.total)

pub loop-taken-preserved : goal.loop-taken-preserved
loop-taken-preserved g c = gave_on c.loop-taken.invariant c.pass_piece-next.ensures

pub returns : goal.returns
returns g c = c.loop-taken.invariant
