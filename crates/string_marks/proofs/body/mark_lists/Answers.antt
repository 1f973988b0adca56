use lib.Dec.{eqb}
use Rattle.inputs.specs.told.KindTold.{kind_number}
use Rattle.members.specs.declared.list.Member.TheVariants as member
use Rattle.schema.specs.Members.{function_field, property_field, alias_field}
use Rattle.declarations.proofs.BodyLaws.{field-by}
use Rattle.string_marks.proofs.BodyMarks.{list-marked}
use Rattle.string_marks.proofs.ReadingLaws.{lists-marks}
use Rattle.string_marks.proofs.body.mark_lists.Goals as goal

pub returns : goal.returns
returns c =
    let class = eqb (kind_number c.args.kind) 1 in
    lists-marks class c.mark_constructors.ensures
    (list-marked member.Function (field-by function_field class c.field_of.ensures) c.mark_members.ensures)
    (list-marked member.Property (field-by property_field class c.field_of-2.ensures) c.mark_members-2.ensures)
    (list-marked member.Alias (field-by alias_field class c.field_of-3.ensures) c.mark_members-3.ensures)
