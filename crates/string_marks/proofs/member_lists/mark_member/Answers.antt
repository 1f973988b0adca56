use Rattle.string_marks.proofs.member_lists.mark_member.Goals as goal

pub returns-in-Constructor : goal.returns-in-Constructor
returns-in-Constructor c = rw c.in-Constructor.is c.mark_constructor.ensures

pub returns-in-Function : goal.returns-in-Function
returns-in-Function c = rw c.in-Function.is c.mark_function.ensures

pub returns-in-Property : goal.returns-in-Property
returns-in-Property c = rw c.in-Property.is c.mark_property.ensures

pub returns-in-Alias : goal.returns-in-Alias
returns-in-Alias c = rw c.in-Alias.is c.mark_alias.ensures
