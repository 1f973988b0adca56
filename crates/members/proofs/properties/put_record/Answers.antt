use Rattle.schema.specs.told.SchemaTold.{lent}
use Rattle.members.proofs.PropertyLaws.{record-told}
use Rattle.members.proofs.properties.put_record.Goals as goal

pub returns-clause-written : goal.returns-clause-written
returns-clause-written c = record-told (lent c.args.context.now) c.args.msg.bytes.now c.args.msg.base c.args.own.name c.args.own.names c.requires c.names_of.result c.names_of-2.result c.flags_in.ensures c.has_receiver.ensures c.is_default.ensures c.is_default-2.ensures c.names_of.ensures c.names_of-2.ensures c.put_property.ensures.written
