use lib.ListN.{length}
use Rattle.fields.specs.Fields.{Function-name}
use Rattle.declaration_rows.specs.Rows.{function_rows}
use Rattle.schema.specs.Members.{function_in}
use Rattle.schema.specs.told.SchemaTold.{lent}
use Rattle.schema.specs.told.MembersTold.{member_cost}
use Rattle.foundation.proofs.ErrorLaws.{handed_on}
use Rattle.members.proofs.PairLaws.{looked, nameless}
use Rattle.members.proofs.CallableLaws.{function-none, function-unlisted, function-untyped, function-told}
use Rattle.schema.proofs.WroteLaws.{walked_err, walked_ok}
use Rattle.members.proofs.ParameterLaws.{listed_err, listed_ok}
use Rattle.members.proofs.callables.function_in.Goals as goal

pub returns-in_default-clause-written : goal.returns-in_default-clause-written
returns-in_default-clause-written c = nameless function_in function_rows (member_cost (length c.args.msg.bytes.now)) Function-name function-none (looked (lent c.args.context.now) _ _ _ c.name_in.ensures c.in_default.is)

pub returns-in_err-count-clause-written : goal.returns-in_err-count-clause-written
returns-in_err-count-clause-written c = rw (handed_on _ c.from_residual.ensures.1) (function-unlisted c.in-Some.name c.requires.0 c.signature_in-signed.result c.function_head.ensures.written c.parameters_in.ensures.written (looked (lent c.args.context.now) _ _ _ c.name_in.ensures c.in-Some.is) (listed_err c.parameters_in.new.out c.in_err-count.was))

pub returns-in_err-function_types-clause-written : goal.returns-in_err-function_types-clause-written
returns-in_err-function_types-clause-written c = rw (handed_on _ c.from_residual-in_err-function_types.ensures.1) (function-untyped c.in-Some.name c.requires.0 c.signature_in-signed.result c.function_head.ensures.written c.parameters_in.ensures.written (looked (lent c.args.context.now) _ _ _ c.name_in.ensures c.in-Some.is) (listed_ok c.parameters_in.new.out c.in_ok-count.was) c.signature_in-signed.ensures c.function_types.ensures.written (walked_err c.function_types.new.out c.in_err-function_types.was))

pub returns-clause-written : goal.returns-clause-written
returns-clause-written c = function-told c.in-Some.name c.requires.0 c.signature_in-signed.result c.function_head.ensures.written c.parameters_in.ensures.written (looked (lent c.args.context.now) _ _ _ c.name_in.ensures c.in-Some.is) (listed_ok c.parameters_in.new.out c.in_ok-count.was) c.signature_in-signed.ensures c.function_types.ensures.written (walked_ok c.function_types.new.out c.in_ok-function_types.was) c.put_count.ensures
