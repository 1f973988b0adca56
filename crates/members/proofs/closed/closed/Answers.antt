use mathlib.Core.Path.{ap, ◌∙◌}
use Rattle.std.specs.declared.result.Result.TheVariants.{Ok}
use Rattle.schema.proofs.WroteLaws.{picked_true, picked_false}
use Rattle.members.specs.told.ClosedTold.{callable_in, callable_rows, callable_parts, callable_closed}
use Rattle.members.proofs.ClosedLaws.{closed_dropped, closed-kept, callable-closed}
use Rattle.members.proofs.closed.closed.Goals as goal

pub returns-then-not-kept-clause-written : goal.returns-then-not-kept-clause-written
returns-then-not-kept-clause-written c = closed_dropped (callable_in c.args.callable) (callable_rows c.args.callable) (callable_closed c.args.callable) c.callable_in.ensures.written (picked_false c.callable_in.new.out (c.in_ok-kept.was ∙ ap Ok c.if-not-kept.true))

pub returns-clause-written : goal.returns-clause-written
returns-clause-written c = closed-kept (callable_in c.args.callable) (callable_rows c.args.callable) (callable_closed c.args.callable) (callable_parts c.args.callable) (callable-closed c.args.callable) c.callable_in.ensures.written c.requires.1 (picked_true c.callable_in.new.out (c.in_ok-kept.was ∙ ap Ok c.if-not-kept.false)) c.close.ensures.written
