use lib.ListN.{length}
use Rattle.fields.specs.Fields.{Property-name}
use Rattle.declaration_rows.specs.Rows.{property_rows}
use Rattle.schema.specs.Members.{property_in}
use Rattle.schema.specs.told.SchemaTold.{lent}
use Rattle.schema.specs.told.MembersTold.{member_cost}
use Rattle.foundation.proofs.ErrorLaws.{handed_on}
use Rattle.members.proofs.PairLaws.{looked, nameless}
use Rattle.members.proofs.PropertyLaws.{property-nameless, property-unsigned}
use Rattle.members.proofs.properties.property_in.Goals as goal

pub returns-in_default-clause-written : goal.returns-in_default-clause-written
returns-in_default-clause-written c = nameless property_in property_rows (member_cost (length c.args.msg.bytes.now)) Property-name property-nameless (looked (lent c.args.context.now) _ _ _ c.name_in.ensures c.in_default.is)

pub returns-in_err-names-clause-written : goal.returns-in_err-names-clause-written
returns-in_err-names-clause-written c = rw (handed_on _ c.from_residual.ensures.1) (property-unsigned c.in-Some.name (looked (lent c.args.context.now) _ _ _ c.name_in.ensures c.in-Some.is) (λ s o m k. c.property_signatures.ensures c.args.context.now.d2.now s o.names m k) c.in_err-names.was)
