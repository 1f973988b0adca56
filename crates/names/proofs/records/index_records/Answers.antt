use Rattle.std.proofs.lemmas.Result.{err_from_is_err_and}
use Rattle.characters.proofs.PartLaws.{rest-is}
use Rattle.names.proofs.NoteLaws.{index-whole, index-locals, index_stopped}
use Rattle.names.proofs.records.index_records.Goals as goal

pub returns-in_err-count : goal.returns-in_err-count
returns-in_err-count c = λ m w.
    let p = err_from_is_err_and c.from_residual.result c.from_residual.ensures.1 in
    rw (p.1, p.2) (index_stopped c.args.bytes.now c.args.at m c.note_records.new.notes c.in_err-count.was (c.note_records.ensures m w))

pub returns-in_err-check_varints : goal.returns-in_err-check_varints
returns-in_err-check_varints c = λ m w.
    let p = err_from_is_err_and c.from_residual-in_err-check_varints.result c.from_residual-in_err-check_varints.ensures.1 in
    rw (p.1, p.2) (index-locals c.args.bytes.now c.args.at m w c.note_records.new.notes c.note_records.result (c.note_records.ensures m w) c.in_ok-count.was c.check_varints.result (rw (c.rest-table.ensures.0, c.rest-table.ensures.1, ← rest-is c.args.bytes.now c.args.at) at c.check_varints.ensures) c.in_err-check_varints.was)

pub returns : goal.returns
returns c = λ m w. index-whole c.args.bytes.now c.args.at m w c.note_records.new.notes c.note_records.result (c.note_records.ensures m w) c.in_ok-count.was c.check_varints.result (rw (c.rest-table.ensures.0, c.rest-table.ensures.1, ← rest-is c.args.bytes.now c.args.at) at c.check_varints.ensures) c.in_ok-check_varints.was
