use Rattle.std.proofs.Common.{rules}
use native.Mathlib.Omega.{arith}
use Rattle.inputs.proofs.InputLaws.{kind-is, kind_else}
use Rattle.inputs.proofs.kind_of.Goals as goal

pub returns-in-2 : goal.returns-in-2
returns-in-2 c = kind-is 2 c.args.k (omega arith) (omega arith) c.ranges.k (search rules)

pub returns-in-3 : goal.returns-in-3
returns-in-3 c = kind-is 3 c.args.k (omega arith) (omega arith) c.ranges.k (search rules)

pub returns-in-4 : goal.returns-in-4
returns-in-4 c = kind-is 4 c.args.k (omega arith) (omega arith) c.ranges.k (search rules)

pub returns-in-5 : goal.returns-in-5
returns-in-5 c = kind-is 5 c.args.k (omega arith) (omega arith) c.ranges.k (search rules)

pub returns-in_default : goal.returns-in_default
returns-in_default c = kind_else c.args.k c.ranges.k (search rules) (search rules) (search rules) (search rules)
