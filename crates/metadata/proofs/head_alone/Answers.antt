use mathlib.Core.List.{[]}
use native.Mathlib.Omega.{arith}
use Rattle.std.proofs.Common.{rules}
use Rattle.inputs.specs.told.KindTold.{kind_number}
use Rattle.metadata.proofs.ReadLaws.{alone-over, alone-done, alone_ends, start-room}
use Rattle.metadata.proofs.head_alone.Goals as goal

pub returns-then-areas-clause-written : goal.returns-then-areas-clause-written
returns-then-areas-clause-written c = alone-over (kind_number c.args.kind) c.args.areas.now.sheet.now c.args.areas.now.text.now c.if-areas.true

pub put_head-requires : goal.put_head-requires
put_head-requires c = rw (c.of_bytes-context.ensures.0, c.of_bytes-context.ensures.1) (start-room [] [] (omega arith) (omega arith) c.start.ensures)

pub overflow_add-out : goal.overflow_add-out
overflow_add-out c = let h = alone_ends (kind_number c.args.kind) [] [] (omega arith) (omega arith) c.start.ensures (rw c.number.ensures at c.put_head.ensures.written) in omega arith

pub put_aliases-requires : goal.put_aliases-requires
put_aliases-requires c = let h = alone_ends (kind_number c.args.kind) [] [] (omega arith) (omega arith) c.start.ensures (rw c.number.ensures at c.put_head.ensures.written) in omega arith

pub put_head_counts-requires : goal.put_head_counts-requires
put_head_counts-requires c = let h = alone_ends (kind_number c.args.kind) [] [] (omega arith) (omega arith) c.start.ensures (rw c.number.ensures at c.put_head.ensures.written) in omega arith

pub returns-clause-written : goal.returns-clause-written
returns-clause-written c = alone-done (kind_number c.args.kind) c.args.areas.now.sheet.now c.args.areas.now.text.now c.start.ensures (rw c.number.ensures at c.put_head.ensures.written) c.put_aliases.ensures.written c.put_count.ensures c.put_head_counts.ensures c.if-areas.false (search rules) (search rules)
