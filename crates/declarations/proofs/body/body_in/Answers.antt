use Rattle.foundation.proofs.ErrorLaws.{handed_on}
use native.Mathlib.Omega.{arith}
use Rattle.inputs.specs.told.KindTold.{kind_number}
use lib.ListN.{length}
use Rattle.schema.specs.told.SchemaTold.{lent}
use Rattle.declarations.proofs.BodyLaws.{head-affords, lists-affords, head-ends, body-done, body-stops}
use Rattle.declarations.proofs.body.body_in.Goals as goal

pub head_in-requires : goal.head_in-requires
head_in-requires c = head-affords (length c.args.msg.bytes.now) c.requires.0

pub lists_in-requires : goal.lists_in-requires
lists_in-requires c = (lists-affords (length c.args.msg.bytes.now) c.requires.0 c.head_in.ensures.written.spends, c.requires.1)

pub returns-in_err-sections-clause-written : goal.returns-in_err-sections-clause-written
returns-in_err-sections-clause-written c = rw (handed_on c.from_residual.result c.from_residual.ensures.1) (body-stops (kind_number c.args.kind) (lent c.args.context.now) c.args.msg.bytes.now c.args.msg.base c.head_in.ensures.written _ c.lists_in.new.out.sheet.now c.lists_in.new.out.text.now c.in_err-sections.ensures.written)

pub put_head_counts-requires : goal.put_head_counts-requires
put_head_counts-requires c = let h = head-ends (length c.args.msg.bytes.now) c.requires.0 c.head_in.ensures.written.spends in omega arith

pub returns-clause-written : goal.returns-clause-written
returns-clause-written c = body-done (kind_number c.args.kind) (lent c.args.context.now) c.args.msg.bytes.now c.args.msg.base c.head_in.ensures.written c.in_ok-sections.ensures.written c.put_head_counts.ensures
