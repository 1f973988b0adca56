use Prim.Native.Nat.{◌^◌}
use Rattle.messages.proofs.BodiesLaws.{Goes}
use Rattle.sheet.specs.told.Put.{SameAreas}
use Rattle.schema.specs.told.SchemaTold.{lent}
use Rattle.schema.proofs.ListLaws.{Looping}
use Rattle.members.specs.Lists.{member_in, member_rows}
use Rattle.members.proofs.list.members_at.Given as goal

abbrev pub invariant-loop-body : goal.invariant-loop-body
invariant-loop-body l = Goes l.body-iterator l.msg.base l.msg.bytes.now l.list.number × Looping (member_in l.list.member) (member_rows l.list.member) (2 ^ 25) (lent l.context) l.msg.bytes.now l.msg.base l.list.number l.initial.out.state l.initial.out.sheet.now l.initial.out.text.now l.body-iterator.at l.count l.out.state l.out.sheet.now l.out.text.now × SameAreas l.initial.out l.out
