use Rattle.std.proofs.Common.{sym, ◌∙◌}
use Rattle.std.proofs.lemmas.Bool.Decides.{Decides-eqb}
use Rattle.std.proofs.lemmas.Slice.Eq.{slice_eq-Decides}
use Rattle.erasure.proofs.ListedLaws.{means_row, means_none, means-itself}
use Rattle.erasure.proofs.TextLaws.{never_both}
use Rattle.erasure.proofs.meaning_of.Goals as goal

pub returns-then-eq-clause-means : goal.returns-then-eq-clause-means
returns-then-eq-clause-means c =
    means_row c.args.name.now c.in-Some.row _ c.in-Some.ensures.0
    ((slice_eq-Decides Decides-eqb _ _ _ c.eq.ensures).0 c.if-eq.true ∙ c.row_at-meaning.ensures.name) c.row_at-meaning.ensures.meaning

pub returns-then-eq-clause-table : goal.returns-then-eq-clause-table
returns-then-eq-clause-table c = c.row_at-meaning.ensures.table

pub returns-else-eq-clause-means : goal.returns-else-eq-clause-means
returns-else-eq-clause-means c =
    means-itself c.args.name.now c.in-Some.row c.in-Some.ensures.1 λ e.
    never_both ((slice_eq-Decides Decides-eqb _ _ _ c.eq.ensures).1 (e ∙ sym c.row_at-meaning.ensures.name)) c.if-eq.false

pub returns-in-None-clause-means : goal.returns-in-None-clause-means
returns-in-None-clause-means c = means_none c.args.name.now c.in-None.ensures
