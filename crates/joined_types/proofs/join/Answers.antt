use native.Mathlib.Omega.{arith}
use Rattle.joined_types.proofs.RunLaws.{run_headed}
use Rattle.joined_types.proofs.join.Goals as goal

pub returns : goal.returns
returns c = run_headed c.args.s.now c.args.from c.args.to (omega (arith, c.if-to-from-lt5.false, c.requires.0)) c.requires.1 (omega (arith, c.if-size-ge2097152.false))
