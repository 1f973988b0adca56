use native.Mathlib.Omega.{arith}
use Rattle.names.proofs.RecordLaws.{record_is}
use Rattle.names.proofs.records.record_in.Goals as goal

pub returns : goal.returns
returns c =
    let f = c.find_each.ensures in
    record_is c.args.message.base c.args.message.bytes.now _ (f 0 (omega arith)) (f 1 (omega arith)) (f 2 (omega arith)) (f 3 (omega arith)) (f 4 (omega arith)) (f 5 (omega arith)) c.index_in.result c.index_in.ensures c.served.ensures c.piece_in.ensures c.index_in-2.ensures c.operation_in.ensures c.two_in.ensures c.two_in-2.ensures
