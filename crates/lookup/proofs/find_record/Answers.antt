use Prim.Native.Nat.{suc, ◌<◌}
use native.Mathlib.Omega.{arith}
use lib.Dec.{leb}
use lib.ListN.{length-take}
use Rattle.std.proofs.Common.{rules}
use Rattle.std.proofs.lemmas.List.Sorted.{IsPartitionPoint-from_clause}
use Rattle.lookup.proofs.IndexLaws.{past_all, served-by, past, ended_first, none-ends, first-ends}
use Rattle.lookup.proofs.find_record.Goals as goal

pub returns-then-served_from-wanted-clause-record : goal.returns-then-served_from-wanted-clause-record
returns-then-served_from-wanted-clause-record c =
    let a = c.args in
    record { below = tt; is = λ records s. past_all a.context.now.notes.now a.context.now.tables.records a.index records s (omega (arith, c.served_from.ensures, c.if-served_from-wanted.true)) }

pub returns-then-serves-clause-record : goal.returns-then-serves-clause-record
returns-then-serves-clause-record c = let t = c.serves.ensures c.if-serves.true in record { below = t.0; is = λ records s. served-by c.args.context.now.notes.now _ _ records s c.unwrap_or-code.result (suc c.unwrap_or-code.result) (omega arith) (omega (arith, t.0)) (omega (arith, t.1)) (omega (arith, t.2)) (omega arith) }

pub returns-then-at-count-clause-record : goal.returns-then-at-count-clause-record
returns-then-at-count-clause-record c =
    let a = c.args in
    let notes = a.context.now.notes.now in
    let count = a.context.now.tables.records in
    let f = c.as_chunks.ensures in
    record {
      below = tt;
      is = λ records s.
          let first = ended_first notes count a.index records s c.as_chunks.result.0.now f.front f.front_len in
          let point = IsPartitionPoint-from_clause (λ r. leb (past r) a.index) _ _ c.partition_point-at.ensures.partitioned first (λ x r q k. search rules) in
          none-ends notes count a.index records s c.as_chunks.result.0.now f.front f.front_len _ point c.if-at-count.true;
    }

pub returns-clause-record : goal.returns-clause-record
returns-clause-record c =
    let a = c.args in
    let notes = a.context.now.notes.now in
    let count = a.context.now.tables.records in
    let f = c.as_chunks.ensures in
    let below : c.partition_point-at.result < count = omega (arith, length-take count c.as_chunks.result.0.now) in
    record {
      below = below;
      is = λ records s.
          let first = ended_first notes count a.index records s c.as_chunks.result.0.now f.front f.front_len in
          let point = IsPartitionPoint-from_clause (λ r. leb (past r) a.index) _ _ c.partition_point-at.ensures.partitioned first (λ x r q k. search rules) in
          first-ends notes count a.index records s c.as_chunks.result.0.now f.front f.front_len _ point below;
    }
