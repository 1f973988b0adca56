use native.Mathlib.Omega.{arith}
use Rattle.members.specs.declared.list.Member.TheVariants as member
use Rattle.members.proofs.MemberLists.{costs_less, of-kind}
use Rattle.members.proofs.list.member_in.Goals as goal

pub returns-in-Constructor-clause-written : goal.returns-in-Constructor-clause-written
returns-in-Constructor-clause-written c = of-kind member.Constructor c.in-Constructor.is c.closed.ensures.written

pub returns-in-Function-clause-written : goal.returns-in-Function-clause-written
returns-in-Function-clause-written c = of-kind member.Function c.in-Function.is c.closed-in-Function.ensures.written

pub returns-in-Property-clause-written : goal.returns-in-Property-clause-written
returns-in-Property-clause-written c = of-kind member.Property c.in-Property.is (costs_less (omega arith) c.property_in.ensures.written)

pub returns-in-Alias-clause-written : goal.returns-in-Alias-clause-written
returns-in-Alias-clause-written c = of-kind member.Alias c.in-Alias.is (costs_less (omega arith) c.alias_in.ensures.written)
