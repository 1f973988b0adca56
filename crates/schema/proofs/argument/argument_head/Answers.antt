use native.Mathlib.Omega.{arith}
use Rattle.schema.proofs.ArgumentLaws.{head-star, head-inline, head-indexed, head-nothing}
use Rattle.schema.proofs.argument.argument_head.Goals as goal

pub returns-in-Star : goal.returns-in-Star
returns-in-Star c = head-star c.args.msg.base c.args.msg.bytes.now (c.find_each.ensures 0 (omega arith)) (c.find_each.ensures 1 (omega arith)) (c.find_each.ensures 2 (omega arith)) c.projection_of-projection.result c.projection_of-projection.ensures c.in-Star.is

pub returns-in-Some : goal.returns-in-Some
returns-in-Some c = head-inline c.args.msg.base c.args.msg.bytes.now (c.find_each.ensures 0 (omega arith)) (c.find_each.ensures 1 (omega arith)) (c.find_each.ensures 2 (omega arith)) c.projection_of-projection.result c.projection_of-projection.ensures c.in_default.not-Star c.piece_in.ensures c.in-Some.is

pub returns-in-Some-index_in : goal.returns-in-Some-index_in
returns-in-Some-index_in c = head-indexed c.args.msg.base c.args.msg.bytes.now (c.find_each.ensures 0 (omega arith)) (c.find_each.ensures 1 (omega arith)) (c.find_each.ensures 2 (omega arith)) c.projection_of-projection.result c.projection_of-projection.ensures c.in_default.not-Star c.piece_in.ensures c.in_default-piece_in.is c.index_in.ensures c.in-Some-index_in.is

pub returns-in-None : goal.returns-in-None
returns-in-None c = head-nothing c.args.msg.base c.args.msg.bytes.now (c.find_each.ensures 0 (omega arith)) (c.find_each.ensures 1 (omega arith)) (c.find_each.ensures 2 (omega arith)) c.projection_of-projection.result c.projection_of-projection.ensures c.in_default.not-Star c.piece_in.ensures c.in_default-piece_in.is c.index_in.ensures c.in-None.is
