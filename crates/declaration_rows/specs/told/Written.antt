-- What the writers of records are given, and the cells that they write.
-- Assumes nothing.
use Rattle.std.specs.Prelude.{Bool, List, [], ◌∷◌, ◌++◌, ℕ, ◌+◌, ◌≤◌, length}
use Rattle.std.proofs.Math.Option.{Option, some}
use Rattle.foundation.specs.Choices.{or_else, both_of}
use Rattle.foundation.specs.Texts.{Text, ascii}
use Rattle.names.specs.told.Name.{name_text}
use Rattle.sheet.specs.Rows.{Cell, num, bit}
use Rattle.sheet.specs.declared.State.{State}
use Rattle.declaration_rows.specs.Declarations.{Signature, signed}
use Rattle.declaration_rows.specs.declared.SignatureNames.{SignatureNames}
use Rattle.declaration_rows.specs.declared.Role.{Role}
use Rattle.declaration_rows.specs.declared.Role.TheVariants as role
use Rattle.declaration_rows.specs.declared.kinds.RecordKind.{RecordKind}
use Rattle.declaration_rows.specs.declared.kinds.RecordKind.TheVariants as record_kind
use Rattle.declaration_rows.specs.Rows.{name_cell, signature_cells, return_role, receiver_role, parameter_role, vararg_role, argument_role, underlying_role, expanded_role}

-- A role, and a kind of records, by its number on the sheet.
abbrev pub role_number : Role → ℕ
role_number role.Return = return_role
role_number role.Receiver = receiver_role
role_number role.Parameter = parameter_role
role_number role.VarargElement = vararg_role
role_number role.Argument = argument_role
role_number role.Underlying = underlying_role
role_number role.Expanded = expanded_role
role_number (role.Other n) = n

abbrev pub record_number : RecordKind → ℕ
record_number record_kind.Head = 1
record_number record_kind.Constructor = 2
record_number record_kind.Function = 3
record_number record_kind.Property = 4
record_number record_kind.Parameter = 5
record_number record_kind.Type = 6
record_number record_kind.Default = 7
record_number record_kind.Alias = 8
record_number record_kind.Aliases = 9

-- The decoded bytes and d2 are of 32,768 at most, and the places that are counted stay within `most`.
pub record RecordRoom (most : ℕ) (bytes units : List ℕ) (s : State) : Type 0 where
  pub payload : length bytes ≤ 32768
  pub d2 : length units ≤ 32768
  pub places : s.sheet + s.text ≤ most

-- how many bytes a cell of a record takes at most in both areas: 4 and a name, or 8
abbrev pub cell_limit : ℕ
cell_limit = 131095

-- a signature by its two names, if both are there
abbrev pub signature_by : List ℕ → List ℕ → SignatureNames → Option Signature
signature_by payload d2 n = both_of signed (name_text payload d2 n.name) (name_text payload d2 n.descriptor)

-- a constructor's, whose name falls back
abbrev pub init_by : List ℕ → List ℕ → SignatureNames → Option Signature
init_by payload d2 n =
    both_of signed (or_else (name_text payload d2 n.name) (some (ascii "<init>"))) (name_text payload d2 n.descriptor)

-- The cells of each kind of record, but for the counts that are written after what they count.
abbrev pub head_cells : ℕ → Option Text → ℕ → List Cell
head_cells kind name flags = num 1 kind ∷ name_cell name ∷ num 8 flags ∷ []

abbrev pub head_counts : ℕ → ℕ → ℕ → List Cell
head_counts constructors functions properties = num 2 constructors ∷ num 2 functions ∷ num 2 properties ∷ []

abbrev pub constructor_cells : ℕ → Option Signature → List Cell
constructor_cells flags s = num 8 flags ∷ signature_cells s

abbrev pub function_cells : Option Text → ℕ → Option Signature → Bool → List Cell
function_cells name flags s receiver = name_cell name ∷ num 8 flags ∷ (signature_cells s ++ (bit receiver ∷ []))

abbrev pub property_flags : ℕ → Bool → Bool → Bool → List Cell
property_flags flags receiver getter setter = num 8 flags ∷ bit receiver ∷ bit getter ∷ bit setter ∷ []

abbrev pub property_signatures : Option Signature → Option Signature → Option Signature → List Cell
property_signatures field getter setter = signature_cells field ++ (signature_cells getter ++ signature_cells setter)

abbrev pub property_cells : Option Text → ℕ → Bool → Bool → Bool → Option Signature → Option Signature → Option Signature → List Cell
property_cells name flags receiver getter_default setter_default field getter setter =
    name_cell name ∷ (property_flags flags receiver getter_default setter_default ++ property_signatures field getter setter)

abbrev pub parameter_cells : Option Text → Bool → List Cell
parameter_cells name default = name_cell name ∷ bit default ∷ []

abbrev pub alias_cells : Option Text → ℕ → List Cell
alias_cells name flags = name_cell name ∷ num 8 flags ∷ []
