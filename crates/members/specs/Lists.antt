-- The members of a body by their kind: what is read of one, and its rows.
-- Assumes nothing.
use Rattle.std.specs.Prelude.{List, map}
use Rattle.std.proofs.Math.Option.{Option}
use Rattle.foundation.specs.Choices.{concat}
use Rattle.wire.specs.Wire.{Message}
use Rattle.sheet.specs.Rows.{Row}
use Rattle.declaration_rows.specs.Declarations.{Constructor, Function, Property, Alias, Declarations}
use Rattle.declaration_rows.specs.Rows.{property_rows, alias_rows}
use Rattle.schema.specs.Reading.{Scope, Read}
use Rattle.schema.specs.Members.{constructor_in, function_in, property_in, alias_in}
use Rattle.descriptors.specs.Defaults.{closed_constructor, closed_function}
use Rattle.members.specs.declared.list.Member.{Member}
use Rattle.members.specs.declared.list.Member.TheVariants as member

abbrev pub Item : Member → Type 0
Item member.Constructor = Constructor
Item member.Function = Function
Item member.Property = Property
Item member.Alias = Alias

abbrev pub member_in : (k : Member) → Scope → Message → Read (Option (Item k))
member_in member.Constructor = constructor_in
member_in member.Function = function_in
member_in member.Property = property_in
member_in member.Alias = alias_in

abbrev pub member_rows : (k : Member) → Item k → List Row
member_rows member.Constructor = closed_constructor
member_rows member.Function = closed_function
member_rows member.Property = property_rows
member_rows member.Alias = alias_rows

-- those that a body declares
abbrev pub items_of : (k : Member) → Declarations → List (Item k)
items_of member.Constructor d = d.constructors
items_of member.Function d = d.functions
items_of member.Property d = d.properties
items_of member.Alias d = d.aliases

-- The rows of one list of a body.
abbrev pub section_rows : Member → Declarations → List Row
section_rows k d = concat (map (member_rows k) (items_of k d))
