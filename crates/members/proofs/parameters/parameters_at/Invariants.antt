use Rattle.declaration_rows.specs.Rows.{parameter_rows}
use Rattle.messages.proofs.BodiesLaws.{Goes}
use Rattle.sheet.specs.told.Put.{SameAreas}
use Rattle.schema.specs.told.SchemaTold.{lent}
use Rattle.schema.specs.told.MembersTold.{parameter_cost}
use Rattle.schema.proofs.ListLaws.{Looping}
use Rattle.members.proofs.ParameterLaws.{read_always}
use Rattle.members.proofs.parameters.parameters_at.Given as goal

abbrev pub invariant-loop-parameter : goal.invariant-loop-parameter
invariant-loop-parameter l = Goes l.parameter-iterator l.msg.base l.msg.bytes.now l.number × Looping read_always parameter_rows parameter_cost (lent l.context) l.msg.bytes.now l.msg.base l.number l.initial.out.state l.initial.out.sheet.now l.initial.out.text.now l.parameter-iterator.at l.count l.out.state l.out.sheet.now l.out.text.now × SameAreas l.initial.out l.out
