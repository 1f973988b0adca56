use Rattle.wire.specs.Messages.{varints}
use Rattle.std.proofs.lemmas.Result.{err_from_is_err_and}
use Rattle.messages.proofs.RepeatedLaws.{two-sound, two_refused}
use Rattle.messages.proofs.repeated.check_varints.Goals as goal

pub returns-in_err-first_two : goal.returns-in_err-first_two
returns-in_err-first_two c =
    let p = err_from_is_err_and c.from_residual.result c.from_residual.ensures.1 in
    rw (p.1, p.2) (λ m w. two_refused (varints c.args.number m) (c.first_two.ensures m w) c.in_err-first_two.was)

pub returns : goal.returns
returns c = λ m w. two-sound (varints c.args.number m) (c.first_two.ensures m w) c.in_ok-first_two.was
