use mathlib.Core.Path.{sym, ◌∙◌}
use borrow.Author.Tests.{ltb-false}
use Rattle.lookup.proofs.IndexLaws.{d2-past, d2-begins, d2-goes}
use Rattle.lookup.proofs.d2_extent.Goals as goal

pub returns-in_err-get : goal.returns-in_err-get
returns-in_err-get c = λ units f. rw c.from_residual.ensures (d2-past c.args.ends.now units f c.wide-i.ensures (ltb-false _ _ (sym c.in_err-get.ensures.lookup.0)))

pub returns-then-i-eq0 : goal.returns-then-i-eq0
returns-then-i-eq0 c = λ units f. let l = c.in_ok-get.ensures.lookup in d2-begins c.args.ends.now units f c.wide-i.ensures l.3.0 c.if-i-eq0.true (c.wide-end.ensures ∙ l.3.1 0)

pub returns : goal.returns
returns c = λ units f. let l = c.in_ok-get.ensures.lookup in d2-goes c.args.ends.now units f c.wide-i.ensures l.3.0 c.if-i-eq0.false (c.wide-end.ensures ∙ l.3.1 0) c.wide-start.ensures
