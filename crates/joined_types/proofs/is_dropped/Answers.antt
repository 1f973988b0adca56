use mathlib.Core.Path.{subst}
use Rattle.joined_types.specs.told.Fates.{NoTypeTold}
use Rattle.joined_types.proofs.MovedLaws.{dropped_if_cut}
use Rattle.joined_types.proofs.is_dropped.Goals as goal

pub returns-then-has_no_type : goal.returns-then-has_no_type
returns-then-has_no_type c =
    dropped_if_cut c.args.types c.args.s.now (subst (NoTypeTold c.args.types 0 c.args.s.now) c.if-has_no_type.true (rw (c.whole-argument.ensures.0, c.whole-argument.ensures.1) at c.has_no_type.ensures)) c.check.result (rw (c.whole-argument.ensures.0, c.whole-argument.ensures.1) at c.check.ensures) c.is_ok.ensures.value
