use mathlib.Core.Path.{◌∙◌}
use native.Mathlib.Omega.{arith}
use lib.Seq.{length-take-le}
use Rattle.schema.proofs.AlikeLaws.{deepest_itself}
use Rattle.sheet.proofs.WriteLaws.{put-over}
use Rattle.passes.proofs.opened.deepest_of.Goals as goal

pub returns-then-tables-eq0 : goal.returns-then-tables-eq0
returns-then-tables-eq0 c = deepest_itself _ _ _

pub join_entries-requires : goal.join_entries-requires
join_entries-requires c =
    c.put_all.ensures ∙ put-over c.args.bytes.now _ (length-take-le _ c.args.spare.now (omega (arith, c.if-spare-size.false)))
