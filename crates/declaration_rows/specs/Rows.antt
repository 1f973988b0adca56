-- The rows of what is declared, each owner before what it owns, up to the default descriptors that close constructors and functions.
-- Assumes nothing.
use Rattle.std.specs.Prelude.{Bool, List, [], ◌∷◌, ◌++◌, map, ℕ, length}
use Rattle.std.proofs.Math.Option.{Option, none, some}
use Rattle.foundation.specs.Choices.{map_option, concat}
use Rattle.foundation.specs.Texts.{Text}
use Rattle.characters.specs.Characters.{utf8}
use Rattle.sheet.specs.Rows.{Cell, num, ref, bit, Row, row}
use Rattle.declaration_rows.specs.Declarations.{Types, no_types, and_type, Ty, single, count_of, Signature, Parameter, Constructor, Function, Property, Alias}

abbrev pub name_cell : Option Text → Cell
name_cell name = ref (map_option utf8 name)

-- roles: 1 return or property type, 2 receiver, 3 parameter, 4 vararg element, 5 argument, 6 underlying and 7 expanded type of an alias
abbrev pub return_role : ℕ
return_role = 1

abbrev pub receiver_role : ℕ
receiver_role = 2

abbrev pub parameter_role : ℕ
parameter_role = 3

abbrev pub vararg_role : ℕ
vararg_role = 4

abbrev pub argument_role : ℕ
argument_role = 5

abbrev pub underlying_role : ℕ
underlying_role = 6

abbrev pub expanded_role : ℕ
expanded_role = 7

-- the cells of a type's record: its role, whether it is nullable, its name, how many arguments follow it, and its projection
abbrev pub type_cells : ℕ → Bool → Option Text → ℕ → ℕ → List Cell
type_cells role nullable name count projection = num 1 role ∷ bit nullable ∷ name_cell name ∷ num 2 count ∷ num 1 projection ∷ []

-- a type's arguments follow it, depth first
unfoldable pub types_rows : ℕ → Types → List Row
types_rows role no_types = []
types_rows role (and_type projection nullable name arguments after) =
    row 6 (type_cells role nullable name (count_of arguments) projection)
    ∷ (types_rows argument_role arguments ++ types_rows role after)

abbrev pub type_rows : ℕ → Option Ty → List Row
type_rows role none = []
type_rows role (some t) = types_rows role (single t)

unfoldable pub parameter_rows : Parameter → List Row
parameter_rows p =
    row 5 (name_cell p.name ∷ bit p.declares_default ∷ [])
    ∷ (type_rows parameter_role p.type ++ type_rows vararg_role p.vararg_element)

abbrev pub parameters_rows : List Parameter → List Row
parameters_rows ps = concat (map parameter_rows ps)

-- name and descriptor, absent together
abbrev pub signature_cells : Option Signature → List Cell
signature_cells s = name_cell (map_option (λ t. t.name) s) ∷ name_cell (map_option (λ t. t.descriptor) s) ∷ []

unfoldable pub constructor_rows : Constructor → List Row
constructor_rows c =
    row 2 (num 8 c.flags ∷ (signature_cells c.signature ++ (num 2 (length c.parameters) ∷ []))) ∷ parameters_rows c.parameters

unfoldable pub function_rows : Function → List Row
function_rows f =
    row 3 (
    name_cell (some f.name) ∷ num 8 f.flags
    ∷ (signature_cells f.signature ++ (bit f.has_receiver ∷ num 2 (length f.parameters) ∷ [])))
    ∷ (parameters_rows f.parameters ++ (type_rows receiver_role f.receiver ++ type_rows return_role f.returned))

unfoldable pub property_rows : Property → List Row
property_rows p =
    row 4 (
    name_cell (some p.name) ∷ num 8 p.flags ∷ bit p.has_receiver ∷ bit p.getter_is_default ∷ bit p.setter_is_default
    ∷ (signature_cells p.field ++ (signature_cells p.getter ++ signature_cells p.setter)))
    ∷ (type_rows receiver_role p.receiver ++ type_rows return_role p.type)

unfoldable pub alias_rows : Alias → List Row
alias_rows a =
    row 8 (name_cell (some a.name) ∷ num 8 a.flags ∷ [])
    ∷ (type_rows underlying_role a.underlying ++ type_rows expanded_role a.expanded)

-- All aliases of a body: how many, also when there is none, then each.
abbrev pub aliases_rows : List Alias → List Row
aliases_rows xs = row 9 (num 2 (length xs) ∷ []) ∷ concat (map alias_rows xs)
