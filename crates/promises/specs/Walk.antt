-- A walk of a sheet that believes each count and takes exactly what it announces: what a host does who links by the sheet.
-- Assumes nothing.
use Rattle.std.specs.Prelude.{Bool, ◌&&◌, List, [], ◌∷◌, map, ℕ, zero, suc, ◌+◌, eqb, length, if◌then◌else◌}
use Rattle.std.proofs.Math.Option.{Option, none, some}
use Rattle.std.proofs.Math.ListN.{get_elem?}
use Rattle.foundation.specs.Choices.{if_some, map_option, both_of}
use Rattle.foundation.specs.Texts.{Text}
use Rattle.characters.specs.Characters.{from_utf8}
use Rattle.sheet.specs.Rows.{Cell, num, ref, Row}
use Rattle.sheet.specs.Reading.{rows_of}
use Rattle.declaration_rows.specs.Declarations.{Types, no_types, and_type, Ty, Signature, Parameter, Constructor, Function, Property, Alias, Declarations, signed}
use Rattle.descriptors.specs.Defaults.{function_parts, constructor_parts, descriptor}
use Rattle.declaration_rows.specs.Rows.{return_role, receiver_role, parameter_role, vararg_role, argument_role, underlying_role, expanded_role}

abbrev pub num_of : Cell → ℕ
num_of (num w n) = n
num_of (ref t) = 0

abbrev pub ref_text : Cell → Option (List ℕ)
ref_text (num w n) = none
ref_text (ref t) = t

-- the number in cell i, counted from 0
abbrev pub num_at : ℕ → Row → ℕ
num_at i r = if_some (get_elem? r.body i) 0 num_of

abbrev pub one_at : ℕ → Row → Bool
one_at i r = eqb (num_at i r) 1

-- the bytes of the text in cell i
abbrev pub bytes_at : ℕ → Row → Option (List ℕ)
bytes_at i r = if_some (get_elem? r.body i) none ref_text

abbrev pub text_at : ℕ → Row → Option Text
text_at i r = map_option from_utf8 (bytes_at i r)

-- what was taken, and the rows after it
pub record TakenRows (A : Type 0) : Type 0 where
  pub it : A
  pub rest : List Row

abbrev pub taken_rows : {A : Type 0} → A → List Row → TakenRows A
taken_rows a rows = record { it = a; rest = rows }

abbrev pub Walker : Type 0 → Type 0
Walker A = List Row → Option (TakenRows A)

abbrev pub give : {A : Type 0} → A → Walker A
give a rows = some (taken_rows a rows)

infixl 20 ◌>>=◌
abbrev pub ◌>>=◌ : {A B : Type 0} → Walker A → (A → Walker B) → Walker B
◌>>=◌ w f rows = if_some (w rows) none λ t. f t.it t.rest

-- the next record, which must be of that kind
abbrev pub take_kind : ℕ → Walker Row
take_kind kind [] = none
take_kind kind (r ∷ rows) = if eqb r.kind kind then some (taken_rows r rows) else none

-- what must be there
abbrev pub present : {A : Type 0} → Option A → Walker A
present none rows = none
present (some a) rows = give a rows

unfoldable pub times : {A : Type 0} → ℕ → Walker A → Walker (List A)
times zero w = give []
times (suc n) w = w >>= λ a. times n w >>= λ more. give (a ∷ more)

-- a type of that role
abbrev pub is_type : ℕ → Row → Bool
is_type role r = eqb r.kind 6 && eqb (num_at 0 r) role

-- n types of that role, each followed by as many arguments as it announces
abbrev pub walk_step : (ℕ → ℕ → Walker Types) → ℕ → ℕ → Walker Types
walk_step inner role zero rows = some (taken_rows no_types rows)
walk_step inner role (suc n) [] = none
walk_step inner role (suc n) (r ∷ rows) =
    let inside = inner argument_role (num_at 3 r) >>= λ arguments.
    inner role n >>= λ after. give (and_type (num_at 4 r) (one_at 1 r) (text_at 2 r) arguments after) in
    if is_type role r then inside rows else none

-- at most k of them nested or side by side
unfoldable pub walk_types : ℕ → ℕ → ℕ → Walker Types
walk_types zero role n = walk_step (λ r m rows. none) role n
walk_types (suc k) role n = walk_step (walk_types k) role n

abbrev pub first_type : Types → Option Ty
first_type no_types = none
first_type (and_type projection nullable name arguments after) = some (record { nullable = nullable; name = name; arguments = arguments })

-- the type of that role, if one stands next; each type takes a row
unfoldable pub walk_type : ℕ → Walker (Option Ty)
walk_type role [] = some (taken_rows none [])
walk_type role (r ∷ rows) =
    let there = map_option (λ t. taken_rows (first_type t.it) t.rest) (walk_types (suc (length rows)) role 1 (r ∷ rows)) in
    if is_type role r then there else some (taken_rows none (r ∷ rows))

-- name and descriptor in two cells
abbrev pub signature_at : ℕ → Row → Option Signature
signature_at i r = both_of signed (text_at i r) (text_at (i + 1) r)

unfoldable pub walk_parameter : Walker Parameter
walk_parameter =
    take_kind 5 >>= λ r.
    walk_type parameter_role >>= λ type.
    walk_type vararg_role >>= λ vararg.
    give (record { name = text_at 0 r; declares_default = one_at 1 r; type = type; vararg_element = vararg })

-- A constructor or function, and the ref of the kind 7 that closes it.
pub record Closed (A : Type 0) : Type 0 where
  pub declared : A
  pub default : Option (List ℕ)

abbrev pub closed : {A : Type 0} → A → Option (List ℕ) → Closed A
closed a d = record { declared = a; default = d }

unfoldable pub walk_constructor : Walker (Closed Constructor)
walk_constructor =
    take_kind 2 >>= λ r.
    times (num_at 3 r) walk_parameter >>= λ parameters.
    take_kind 7 >>= λ d.
    give (closed (record { flags = num_at 0 r; parameters = parameters; signature = signature_at 1 r }) (bytes_at 0 d))

unfoldable pub walk_function : Walker (Closed Function)
walk_function =
    take_kind 3 >>= λ r.
    present (text_at 0 r) >>= λ name.
    times (num_at 5 r) walk_parameter >>= λ parameters.
    walk_type receiver_role >>= λ receiver.
    walk_type return_role >>= λ returned.
    take_kind 7 >>= λ d.
    give (closed (record {
      name = name;
      flags = num_at 1 r;
      parameters = parameters;
      has_receiver = one_at 4 r;
      receiver = receiver;
      signature = signature_at 2 r;
      returned = returned;
    }) (bytes_at 0 d))

unfoldable pub walk_property : Walker Property
walk_property =
    take_kind 4 >>= λ r.
    present (text_at 0 r) >>= λ name.
    walk_type receiver_role >>= λ receiver.
    walk_type return_role >>= λ type.
    give (record {
      name = name;
      flags = num_at 1 r;
      field = signature_at 5 r;
      getter = signature_at 7 r;
      setter = signature_at 9 r;
      getter_is_default = one_at 3 r;
      setter_is_default = one_at 4 r;
      has_receiver = one_at 2 r;
      receiver = receiver;
      type = type;
    })

unfoldable pub walk_alias : Walker Alias
walk_alias =
    take_kind 8 >>= λ r.
    present (text_at 0 r) >>= λ name.
    walk_type underlying_role >>= λ underlying.
    walk_type expanded_role >>= λ expanded.
    give (record { name = name; flags = num_at 1 r; underlying = underlying; expanded = expanded })

-- What a sheet says: its metadata kind, class name and flags, its members and type aliases.
pub record Sheet : Type 0 where
  pub kind : ℕ
  pub name : Option Text
  pub flags : ℕ
  pub constructors : List (Closed Constructor)
  pub functions : List (Closed Function)
  pub properties : List Property
  pub aliases : List Alias

-- the head, and as many members of each list as it counts; then kind 9, and as many type aliases as it counts
unfoldable pub walk_sheet : Walker Sheet
walk_sheet =
    take_kind 1 >>= λ h.
    times (num_at 3 h) walk_constructor >>= λ constructors.
    times (num_at 4 h) walk_function >>= λ functions.
    times (num_at 5 h) walk_property >>= λ properties.
    take_kind 9 >>= λ n.
    times (num_at 0 n) walk_alias >>= λ aliases.
    give (record {
      kind = num_at 0 h;
      name = text_at 1 h;
      flags = num_at 2 h;
      constructors = constructors;
      functions = functions;
      properties = properties;
      aliases = aliases;
    })

-- no record is left over
abbrev pub if_none : {A : Type 0} → A → List Row → Option A
if_none a [] = some a
if_none a (r ∷ rows) = none

-- The sheet in some bytes and its text: none unless the walk ends exactly at the last byte.
unfoldable pub walk : List ℕ → List ℕ → Option Sheet
walk sheet text = if_some (rows_of sheet text) none λ rows. if_some (walk_sheet rows) none λ t. if_none t.it t.rest

-- What a walk must give of a constructor, of a function and of all declarations.
abbrev pub closed_of : Constructor → Closed Constructor
closed_of c = closed c (map_option descriptor (constructor_parts c))

abbrev pub closed_function_of : Function → Closed Function
closed_function_of f = closed f (map_option descriptor (function_parts f))

abbrev pub sheet_of : ℕ → Declarations → Sheet
sheet_of kind d = record {
  kind = kind;
  name = d.name;
  flags = d.flags;
  constructors = map closed_of d.constructors;
  functions = map closed_function_of d.functions;
  properties = d.properties;
  aliases = d.aliases;
}
