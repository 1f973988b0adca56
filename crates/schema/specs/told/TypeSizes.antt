-- How many types are in what is declared, nested ones too.
-- Assumes nothing.
use Rattle.std.specs.Prelude.{List, [], ◌∷◌, ℕ, suc, ◌+◌}
use Rattle.std.proofs.Math.Option.{Option}
use Rattle.foundation.specs.Choices.{if_some}
use Rattle.declaration_rows.specs.Declarations.{Types, no_types, and_type, Ty, Argument, Parameter, Constructor, Function, Property, Alias, Declarations}

-- of one that may not be there
abbrev pub size_if_some : {A : Type 0} → (A → ℕ) → Option A → ℕ
size_if_some size o = if_some o 0 size

-- of a list, all together
abbrev pub size_of_all : {A : Type 0} → (A → ℕ) → List A → ℕ
size_of_all size [] = 0
size_of_all size (x ∷ xs) = size x + size_of_all size xs

abbrev pub size_of : Types → ℕ
size_of no_types = 0
size_of (and_type projection nullable name arguments after) = suc (size_of arguments + size_of after)

abbrev pub type_size : Ty → ℕ
type_size t = suc (size_of t.arguments)

-- an argument is a type, and a star one without others in it
abbrev pub argument_size : Argument → ℕ
argument_size a = type_size a.type

abbrev pub parameter_size : Parameter → ℕ
parameter_size p = size_if_some type_size p.type + size_if_some type_size p.vararg_element

abbrev pub constructor_size : Constructor → ℕ
constructor_size c = size_of_all parameter_size c.parameters

abbrev pub function_size : Function → ℕ
function_size f = size_of_all parameter_size f.parameters + (size_if_some type_size f.receiver + size_if_some type_size f.returned)

abbrev pub property_size : Property → ℕ
property_size p = size_if_some type_size p.receiver + size_if_some type_size p.type

abbrev pub alias_size : Alias → ℕ
alias_size a = size_if_some type_size a.underlying + size_if_some type_size a.expanded

abbrev pub declarations_size : Declarations → ℕ
declarations_size d =
    size_of_all constructor_size d.constructors
    + (size_of_all function_size d.functions + (size_of_all property_size d.properties + size_of_all alias_size d.aliases))
