use Rattle.messages.proofs.BodiesLaws.{Goes}
use Rattle.wire.specs.Wire.{Message}
use Rattle.schema.specs.Reading.{Scope}
use Rattle.schema.specs.Members.{parameter_in}
use Rattle.schema.specs.told.SchemaTold.{lent}
use Rattle.schema.proofs.EachLaws.{always}
use Rattle.string_marks.proofs.ListMarks.{MarksLoop}
use Rattle.string_marks.proofs.member_lists.mark_parameters.Given as goal

abbrev pub invariant-loop-parameter : goal.invariant-loop-parameter
invariant-loop-parameter l =
    Goes l.parameter-iterator l.msg.base l.msg.bytes.now l.number
    × MarksLoop (lent l.context) l.msg.base l.msg.bytes.now l.number (λ (s : Scope) (m : Message). always (parameter_in s m)) l.initial.used l.parameter-iterator.at l.used
