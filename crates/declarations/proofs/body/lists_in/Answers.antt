use lib.Dec.{eqb}
use Rattle.inputs.specs.told.KindTold.{kind_number}
use lib.ListN.{length}
use Rattle.schema.specs.Members.{function_field, property_field}
use Rattle.schema.specs.told.SchemaTold.{lent}
use Rattle.foundation.proofs.ErrorLaws.{handed_on}
use Rattle.declarations.proofs.BodyLaws.{field-by, first-affords, second-affords, third-affords, last-affords, constructors-refused, functions-refused, properties-refused, lists-refused, lists-done}
use Rattle.declarations.proofs.body.lists_in.Goals as goal

pub constructors_in-requires : goal.constructors_in-requires
constructors_in-requires c = (first-affords (length c.args.msg.bytes.now) c.requires.0, c.requires.1)

pub returns-in_err-constructors-clause-written : goal.returns-in_err-constructors-clause-written
returns-in_err-constructors-clause-written c = rw (handed_on c.from_residual.result c.from_residual.ensures.1) (constructors-refused (lent c.args.context.now) c.args.msg.bytes.now c.args.msg.base (eqb (kind_number c.args.kind) 1) c.args.out.now.state c.in_err-constructors.ensures.written)

pub members_in-requires : goal.members_in-requires
members_in-requires c = (rw c.in_ok-constructors.ensures.ends (second-affords (length c.args.msg.bytes.now) c.requires.0 c.in_ok-constructors.ensures.written.spends), c.requires.1)

pub returns-in_err-functions-clause-written : goal.returns-in_err-functions-clause-written
returns-in_err-functions-clause-written c = rw (handed_on c.from_residual-in_err-functions.result c.from_residual-in_err-functions.ensures.1) (functions-refused (lent c.args.context.now) c.args.msg.bytes.now c.args.msg.base (eqb (kind_number c.args.kind) 1) c.args.out.now.state c.in_ok-constructors.ensures.written c.field_of.result (field-by function_field (eqb (kind_number c.args.kind) 1) c.field_of.ensures) (rw c.in_ok-constructors.ensures.ends at c.in_err-functions.ensures.written))

pub members_in-requires-2 : goal.members_in-requires-2
members_in-requires-2 c = (rw c.in_ok-functions.ensures.ends (third-affords (length c.args.msg.bytes.now) c.requires.0 c.in_ok-constructors.ensures.written.spends (rw c.in_ok-constructors.ensures.ends at c.in_ok-functions.ensures.written.spends)), c.requires.1)

pub returns-in_err-properties-clause-written : goal.returns-in_err-properties-clause-written
returns-in_err-properties-clause-written c = rw (handed_on c.from_residual-in_err-properties.result c.from_residual-in_err-properties.ensures.1) (properties-refused (lent c.args.context.now) c.args.msg.bytes.now c.args.msg.base (eqb (kind_number c.args.kind) 1) c.args.out.now.state c.in_ok-constructors.ensures.written c.field_of.result (field-by function_field (eqb (kind_number c.args.kind) 1) c.field_of.ensures) (rw c.in_ok-constructors.ensures.ends at c.in_ok-functions.ensures.written) c.field_of-2.result (field-by property_field (eqb (kind_number c.args.kind) 1) c.field_of-2.ensures) (rw c.in_ok-functions.ensures.ends at c.in_err-properties.ensures.written))

pub aliases_in-requires : goal.aliases_in-requires
aliases_in-requires c = (rw c.in_ok-properties.ensures.ends (last-affords (length c.args.msg.bytes.now) c.requires.0 c.in_ok-constructors.ensures.written.spends (rw c.in_ok-constructors.ensures.ends at c.in_ok-functions.ensures.written.spends) (rw c.in_ok-functions.ensures.ends at c.in_ok-properties.ensures.written.spends)), c.requires.1)

pub returns-in_err-aliases-clause-written : goal.returns-in_err-aliases-clause-written
returns-in_err-aliases-clause-written c = rw (handed_on c.from_residual-in_err-aliases.result c.from_residual-in_err-aliases.ensures.1) (lists-refused (lent c.args.context.now) c.args.msg.bytes.now c.args.msg.base (eqb (kind_number c.args.kind) 1) c.args.out.now.state c.in_ok-constructors.ensures.written c.field_of.result (field-by function_field (eqb (kind_number c.args.kind) 1) c.field_of.ensures) (rw c.in_ok-constructors.ensures.ends at c.in_ok-functions.ensures.written) c.field_of-2.result (field-by property_field (eqb (kind_number c.args.kind) 1) c.field_of-2.ensures) (rw c.in_ok-functions.ensures.ends at c.in_ok-properties.ensures.written) (rw c.in_ok-properties.ensures.ends at c.in_err-aliases.ensures.written))

pub returns-clause-written : goal.returns-clause-written
returns-clause-written c = lists-done (lent c.args.context.now) c.args.msg.bytes.now c.args.msg.base (eqb (kind_number c.args.kind) 1) c.args.out.now.state c.in_ok-constructors.ensures.written c.field_of.result (field-by function_field (eqb (kind_number c.args.kind) 1) c.field_of.ensures) (rw c.in_ok-constructors.ensures.ends at c.in_ok-functions.ensures.written) c.field_of-2.result (field-by property_field (eqb (kind_number c.args.kind) 1) c.field_of-2.ensures) (rw c.in_ok-functions.ensures.ends at c.in_ok-properties.ensures.written) (rw c.in_ok-properties.ensures.ends at c.in_ok-aliases.ensures.written)
