use Rattle.messages.proofs.BodiesLaws.{Goes}
use Rattle.schema.specs.told.SchemaTold.{lent}
use Rattle.members.specs.Lists.{member_in}
use Rattle.string_marks.proofs.ListMarks.{MarksLoop}
use Rattle.string_marks.proofs.member_lists.mark_members.Given as goal

abbrev pub invariant-loop-body : goal.invariant-loop-body
invariant-loop-body l =
    Goes l.body-iterator l.msg.base l.msg.bytes.now l.list.number
    × MarksLoop (lent l.context) l.msg.base l.msg.bytes.now l.list.number (member_in l.list.member) l.initial.used l.body-iterator.at l.used
