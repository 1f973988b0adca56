use native.Mathlib.Omega.{arith}
use Rattle.schema.specs.told.SchemaTold.{lent}
use Rattle.foundation.proofs.ErrorLaws.{handed_on}
use Rattle.members.proofs.CallableLaws.{constructor-affords, constructor-refused, constructor-unsigned-told, constructor-told}
use Rattle.members.proofs.ParameterLaws.{listed_err, listed_ok}
use Rattle.members.proofs.callables.constructor_in.Goals as goal

pub overflow_add-out : goal.overflow_add-out
overflow_add-out c = let a = c.args in let e = lent a.context.now in let h = constructor-affords e a.msg.bytes.now a.msg.base a.out.now.state c.requires.0 c.flags_in-flags.result c.names_of.result c.put_constructor.ensures.written in omega (arith, h.room)

pub parameters_in-requires : goal.parameters_in-requires
parameters_in-requires c = let a = c.args in let e = lent a.context.now in (constructor-affords e a.msg.bytes.now a.msg.base a.out.now.state c.requires.0 c.flags_in-flags.result c.names_of.result c.put_constructor.ensures.written, c.requires.1)

pub returns-in_err-count-clause-written : goal.returns-in_err-count-clause-written
returns-in_err-count-clause-written c = let a = c.args in let e = lent a.context.now in rw (handed_on _ c.from_residual.ensures.1) (constructor-refused e a.msg.bytes.now a.msg.base a.out.now.state c.requires.0 c.flags_in-flags.result c.names_of.result c.put_constructor.ensures.written c.parameters_in.ensures.written (listed_err c.parameters_in.new.out c.in_err-count.was))

pub returns-in_err-signed-clause-written : goal.returns-in_err-signed-clause-written
returns-in_err-signed-clause-written c = let a = c.args in let e = lent a.context.now in rw (handed_on _ c.from_residual-in_err-signed.ensures.1) (constructor-unsigned-told e a.msg.bytes.now a.msg.base a.out.now.state c.requires.0 c.flags_in-flags.result c.names_of.result c.put_constructor.ensures.written c.parameters_in.ensures.written (listed_ok c.parameters_in.new.out c.in_ok-count.was) c.signature_in-signed.result c.signature_in-signed.ensures c.in_err-signed.was)

pub returns-clause-written : goal.returns-clause-written
returns-clause-written c = let a = c.args in let e = lent a.context.now in constructor-told e a.msg.bytes.now a.msg.base a.out.now.state c.requires.0 c.flags_in-flags.result c.names_of.result c.put_constructor.ensures.written c.parameters_in.ensures.written (listed_ok c.parameters_in.new.out c.in_ok-count.was) c.signature_in-signed.result c.signature_in-signed.ensures c.in_ok-signed.was (c.names_of.ensures _ c.in_ok-signed.was) c.flags_in-flags.ensures c.put_count.ensures
