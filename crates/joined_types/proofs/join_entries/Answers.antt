use native.Mathlib.Omega.{arith}
use Rattle.schema.specs.told.SchemaTold.{entries_in}
use Rattle.sheet.proofs.WriteLaws.{put-over}
use Rattle.schema.proofs.AlikeLaws.{deepest_itself}
use Rattle.joined_types.specs.told.Fates.{joined_levels}
use Rattle.joined_types.proofs.EntriesLaws.{entries_start, entries_done, entry_none, entry_joined}
use Rattle.joined_types.proofs.join_entries.Goals as goal

pub returns-in_default : goal.returns-in_default
returns-in_default c = rw c.requires (deepest_itself c.args.context.now.payload.now _ _)

pub loop-i-init : goal.loop-i-init
loop-i-init c = entries_start c.args.context.now.payload.now (entries_in c.args.context.now.tables c.args.context.now.notes.now) c.requires

pub loop-i-preserved-in_default-entry_at : goal.loop-i-preserved-in_default-entry_at
loop-i-preserved-in_default-entry_at c = entry_none c.loop-i.invariant c.entry_at.ensures c.in_default-entry_at.is (omega (arith, c.in-Ok.ensures.1, c.loop-i-test.true))

pub returns-then-entry-last : goal.returns-then-entry-last
returns-then-entry-last c =
    rw (c.put_all.ensures, put-over c.args.context.now.payload.now c.loop-i.deepest c.loop-i.invariant.many) (deepest_itself c.args.context.now.payload.now _ _)

pub loop-i-preserved : goal.loop-i-preserved
loop-i-preserved c = entry_joined c.loop-i.invariant c.entry_at.ensures c.in-Some.is c.if-entry-last.false joined_levels c.join_type.new.s c.join_type.ensures

pub returns : goal.returns
returns c = entries_done c.loop-i.invariant (omega (arith, c.in-Ok.ensures.1, c.loop-i.auto.i-end, c.loop-i-test.false))
