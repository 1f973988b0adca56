use Rattle.schema.specs.told.SchemaTold.{lent}
use Rattle.foundation.proofs.ErrorLaws.{handed_on}
use Rattle.members.proofs.PropertyLaws.{named-unreceived, named-unsigned, named-untyped, named-done}
use Rattle.schema.proofs.WroteLaws.{walked_err, walked_ok}
use Rattle.members.proofs.properties.named_property.Goals as goal

pub returns-in_err-declared_type-clause-written : goal.returns-in_err-declared_type-clause-written
returns-in_err-declared_type-clause-written c = rw (handed_on _ c.from_residual.ensures.1) (named-unreceived (lent c.args.context.now) c.args.msg.bytes.now c.args.msg.base c.args.own.name c.args.own.names c.args.out.now.state c.put_record.ensures.written c.declared_type.ensures.written (walked_err c.declared_type.new.out c.in_err-declared_type.was))

pub returns-in_err-check_accessors-clause-written : goal.returns-in_err-check_accessors-clause-written
returns-in_err-check_accessors-clause-written c = rw (handed_on _ c.from_residual-in_err-check_accessors.ensures.1) (named-unsigned (lent c.args.context.now) c.args.msg.bytes.now c.args.msg.base c.args.own.name c.args.own.names c.args.out.now.state c.put_record.ensures.written c.declared_type.ensures.written (walked_ok c.declared_type.new.out c.in_ok-declared_type.was) c.check_accessors.ensures c.in_err-check_accessors.was)

pub returns-in_err-declared_type-2-clause-written : goal.returns-in_err-declared_type-2-clause-written
returns-in_err-declared_type-2-clause-written c = rw (handed_on _ c.from_residual-in_err-declared_type-2.ensures.1) (named-untyped (lent c.args.context.now) c.args.msg.bytes.now c.args.msg.base c.args.own.name c.args.own.names c.args.out.now.state c.put_record.ensures.written c.declared_type.ensures.written (walked_ok c.declared_type.new.out c.in_ok-declared_type.was) c.check_accessors.ensures c.in_ok-check_accessors.was c.declared_type-2.ensures.written (walked_err c.declared_type-2.new.out c.in_err-declared_type-2.was))

pub returns-clause-written : goal.returns-clause-written
returns-clause-written c = named-done (lent c.args.context.now) c.args.msg.bytes.now c.args.msg.base c.args.own.name c.args.own.names c.args.out.now.state c.put_record.ensures.written c.declared_type.ensures.written (walked_ok c.declared_type.new.out c.in_ok-declared_type.was) c.check_accessors.ensures c.in_ok-check_accessors.was c.declared_type-2.ensures.written (walked_ok c.declared_type-2.new.out c.in_ok-declared_type-2.was)
