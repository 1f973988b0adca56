use lib.Dec.{eqb}
use Rattle.inputs.specs.told.KindTold.{kind_number}
use native.Mathlib.Omega.{arith}
use lib.ListN.{length}
use Rattle.schema.specs.Members.{alias_field}
use Rattle.schema.specs.told.SchemaTold.{lent}
use Rattle.foundation.proofs.ErrorLaws.{handed_on}
use Rattle.declarations.proofs.BodyLaws.{field-by, kind-affords, kind-ends, aliases-affords, aliases-refused, aliases-done}
use Rattle.declarations.proofs.body.aliases_in.Goals as goal

pub put_aliases-requires : goal.put_aliases-requires
put_aliases-requires c = kind-affords (length c.args.msg.bytes.now) c.requires.0

pub overflow_add-out : goal.overflow_add-out
overflow_add-out c = let h = kind-ends (length c.args.msg.bytes.now) c.requires.0 c.put_aliases.ensures.written in omega arith

pub members_in-requires : goal.members_in-requires
members_in-requires c = (aliases-affords (length c.args.msg.bytes.now) c.requires.0 c.put_aliases.ensures.written, c.requires.1)

pub returns-in_err-aliases-clause-written : goal.returns-in_err-aliases-clause-written
returns-in_err-aliases-clause-written c = rw (handed_on c.from_residual.result c.from_residual.ensures.1) (aliases-refused (lent c.args.context.now) c.args.msg.bytes.now c.args.msg.base (eqb (kind_number c.args.kind) 1) c.requires.0 c.put_aliases.ensures.written c.field_of.result (field-by alias_field (eqb (kind_number c.args.kind) 1) c.field_of.ensures) c.in_err-aliases.ensures.written)

pub returns-clause-written : goal.returns-clause-written
returns-clause-written c = aliases-done (lent c.args.context.now) c.args.msg.bytes.now c.args.msg.base (eqb (kind_number c.args.kind) 1) c.requires.0 c.put_aliases.ensures.written c.field_of.result (field-by alias_field (eqb (kind_number c.args.kind) 1) c.field_of.ensures) c.in_ok-aliases.ensures.written c.put_count.ensures
