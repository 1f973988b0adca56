use Rattle.lookup.proofs.LookupLaws.{d2-absent, d2-named}
use Rattle.lookup.proofs.d2_name.Goals as goal

pub returns-in_err-part : goal.returns-in_err-part
returns-in_err-part c = λ payload units f z. rw c.from_residual.ensures (d2-absent payload units c.args.context.now.ends.now c.args.index (c.d2_extent.ensures units f) c.in_err-part.was)

pub returns : goal.returns
returns c = λ payload units f z. rw c.plain.ensures (d2-named payload units c.args.context.now.ends.now c.args.index (c.d2_extent.ensures units f) c.in_ok-part.was c.size_at.result (c.size_at.ensures units c.args.context.now.ends.now z))
