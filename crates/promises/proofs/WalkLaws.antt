-- A walk of the rows of some declarations gives them back.
-- Assumes nothing.
use mathlib.Core.Path.{◌≡◌, refl, sym, ◌∙◌, ap, subst}
use mathlib.Core.Bool.{Bool, true, false}
use mathlib.Core.List.{List, [], ◌∷◌, ◌++◌, map, append_assoc, append-nil}
use mathlib.Core.Option.{Option, none, some}
use Prim.Native.Nat.{ℕ, zero, suc, ◌≤◌}
use native.Mathlib.Omega.{arith}
use borrow.Author.Tests.{eq-eqb}
use lib.Dec.{eqb}
use lib.ListN.{length, length-append}
use Rattle.foundation.specs.Choices.{map_option, both_of, concat, All, IfSome}
use Rattle.foundation.specs.Texts.{Text}
use Rattle.characters.specs.Characters.{utf8, from_utf8}
use Rattle.sheet.specs.Rows.{num, bit, Row, row}
use Rattle.declaration_rows.specs.Declarations.{Types, no_types, and_type, Ty, single, count_of, Signature, Parameter, Constructor, Function, Property, Alias, Declarations, signed}
use Rattle.declaration_rows.specs.Rows.{return_role, receiver_role, parameter_role, vararg_role, argument_role, underlying_role, expanded_role, types_rows, type_rows, parameter_rows, parameters_rows, constructor_rows, function_rows, property_rows, alias_rows}
use Rattle.characters.specs.told.CharactersTold.{Characters}
use Rattle.characters.proofs.Utf8Laws.{utf8_back}
use Rattle.schema.proofs.Fine.{FineTypes, FineTy, single_fine, FineParameter, FineSignature, FineConstructor, FineFunction, FineProperty, FineAlias, FineDeclarations}
use Rattle.descriptors.specs.Defaults.{function_parts, constructor_parts, default_row, closed_constructor, closed_function}
use Rattle.declarations.specs.Payload.{declaration_rows}
use Rattle.promises.specs.Walk.{
  num_of,
  taken_rows,
  Walker,
  times,
  is_type,
  walk_types,
  walk_type,
  walk_parameter,
  walk_constructor,
  walk_function,
  walk_property,
  walk_alias,
  walk_sheet,
  closed_of,
  closed_function_of,
  sheet_of,
}

one_bit : (b : Bool) → eqb (num_of (bit b)) 1 ≡ b
one_bit true = refl
one_bit false = refl

text_back : (name : Option Text) → IfSome Characters name → map_option from_utf8 (map_option utf8 name) ≡ name
text_back none h = refl
text_back (some t) h = ap some (utf8_back t h)

-- k rows of types are enough steps
types_walked : (k role : ℕ) (ts : Types) (rest : List Row) → FineTypes ts → length (types_rows role ts) ≤ k
    → walk_types k role (count_of ts) (types_rows role ts ++ rest) ≡ some (taken_rows ts rest)
unfolding types_rows walk_types
types_walked zero role no_types rest f h = refl
types_walked (suc k) role no_types rest f h = refl
types_walked zero role (and_type projection nullable name arguments after) rest f h = absurd (omega arith)
types_walked (suc k) role (and_type projection nullable name arguments after) rest f h =
    let lengths = length-append (types_rows argument_role arguments) (types_rows role after) in
    let inside = types_walked k argument_role arguments (types_rows role after ++ rest) f.4 (omega arith) in
    let behind = types_walked k role after rest f.5 (omega arith) in
    rw (eq-eqb role role refl, append_assoc, inside, behind, one_bit nullable, text_back name f.2)

-- no type of that role stands next
abbrev Apart : ℕ → List Row → Type 0
Apart role [] = Unit {0}
Apart role (r ∷ rows) = is_type role r ≡ false

type_walked : (role : ℕ) (t : Option Ty) (rest : List Row) → IfSome FineTy t → Apart role rest → walk_type role (type_rows role t ++ rest) ≡ some (taken_rows t rest)
unfolding walk_type types_rows
type_walked role none [] f h = refl
type_walked role none (r ∷ rest) f h = rw h
type_walked role (some t) rest f h =
    let ts = single t in
    let lengths = length-append (types_rows role ts) rest in
    rw (eq-eqb role role refl, types_walked (length (types_rows role ts ++ rest)) role ts rest (single_fine f) (omega arith))

apart_from : (role other : ℕ) (t : Option Ty) (rest : List Row) → eqb other role ≡ false → Apart role rest → Apart role (type_rows other t ++ rest)
unfolding types_rows
apart_from role other none rest e h = h
apart_from role other (some t) rest e h = e

-- neither a parameter's type nor its vararg element's stands next
abbrev PastParameter : List Row → Type 0
PastParameter rows = Apart parameter_role rows × Apart vararg_role rows

parameter_walked : (p : Parameter) (rest : List Row) → FineParameter p → PastParameter rest → walk_parameter (parameter_rows p ++ rest) ≡ some (taken_rows p rest)
unfolding walk_parameter parameter_rows
parameter_walked p rest f h =
    let vararg = type_walked vararg_role p.vararg_element rest f.vararg_element h.1 in
    let type = type_walked parameter_role p.type (type_rows vararg_role p.vararg_element ++ rest) f.type
    (apart_from parameter_role vararg_role p.vararg_element rest refl h.0) in
    rw (append_assoc (type_rows parameter_role p.type) (type_rows vararg_role p.vararg_element) rest, type, vararg, one_bit p.declares_default, text_back p.name f.name)

-- a list announced by its count: each of its members is walked where another, or what follows the list, stands next
module _ {A B : Type 0} (w : Walker B) (given : A → B) (rows : A → List Row) (Good : A → Type 0) (Next : List Row → Type 0)
    (one : (a : A) (rest : List Row) → Good a → Next rest → w (rows a ++ rest) ≡ some (taken_rows (given a) rest))
    (next : (a : A) (rest : List Row) → Next (rows a ++ rest)) where
  list-next : (xs : List A) (rest : List Row) → Next rest → Next (concat (map rows xs) ++ rest)
  list-next [] rest h = h
  list-next (x ∷ xs) rest h = subst Next (sym (append_assoc (rows x) (concat (map rows xs)) rest)) (next x (concat (map rows xs) ++ rest))

  list-walked : (xs : List A) (rest : List Row) → All Good xs → Next rest
      → times (length xs) w (concat (map rows xs) ++ rest) ≡ some (taken_rows (map given xs) rest)
  unfolding times
  list-walked [] rest g h = refl
  list-walked (x ∷ xs) rest g h =
      let more = list-walked xs rest g.1 h in
      rw (append_assoc (rows x) (concat (map rows xs)) rest, one x (concat (map rows xs) ++ rest) g.0 (list-next xs rest h), more)

map_same : {A : Type 0} (xs : List A) → map (λ (x : A). x) xs ≡ xs
map_same [] = refl
map_same (x ∷ xs) = ap (λ (l : List _). x ∷ l) (map_same xs)

parameter_begins : (p : Parameter) (rest : List Row) → PastParameter (parameter_rows p ++ rest)
unfolding parameter_rows
parameter_begins p rest = (refl, refl)

parameters_walked : (ps : List Parameter) (rest : List Row) → All FineParameter ps → PastParameter rest
    → times (length ps) walk_parameter (parameters_rows ps ++ rest) ≡ some (taken_rows ps rest)
parameters_walked ps rest f h =
    list-walked walk_parameter (λ p. p) parameter_rows FineParameter PastParameter parameter_walked parameter_begins ps rest f h
    ∙ ap (λ (l : List Parameter). some (taken_rows l rest)) (map_same ps)

signature_back : (s : Option Signature) → IfSome FineSignature s
    → both_of signed (map_option from_utf8 (map_option utf8 (map_option (λ t. t.name) s))) (map_option from_utf8 (map_option utf8 (map_option (λ t. t.descriptor) s))) ≡ s
signature_back none f = refl
signature_back (some s) f = rw (utf8_back s.name f.name, utf8_back s.descriptor f.descriptor)

-- nothing is asked of what follows a constructor, which its kind 7 closes
abbrev Anything : List Row → Type 0
Anything rows = Unit {0}

constructor_walked : (c : Constructor) (rest : List Row) → FineConstructor c → Anything rest
    → walk_constructor (closed_constructor c ++ rest) ≡ some (taken_rows (closed_of c) rest)
unfolding walk_constructor closed_constructor constructor_rows
constructor_walked c rest f h =
    let closing = default_row (constructor_parts c) in
    let parameters = parameters_walked c.parameters (closing ∷ rest) f.parameters (refl, refl) in
    rw (append_assoc (parameters_rows c.parameters) (closing ∷ []) rest, parameters, signature_back c.signature f.signature)

function_walked : (g : Function) (rest : List Row) → FineFunction g → Anything rest
    → walk_function (closed_function g ++ rest) ≡ some (taken_rows (closed_function_of g) rest)
unfolding walk_function closed_function function_rows
function_walked g rest f h =
    let closing = default_row (function_parts g) in
    let ps = parameters_rows g.parameters in
    let re = type_rows receiver_role g.receiver in
    let rt = type_rows return_role g.returned in
    let returned = type_walked return_role g.returned (closing ∷ rest) f.returned refl in
    let receiver = type_walked receiver_role g.receiver (rt ++ (closing ∷ rest)) f.receiver
    (apart_from receiver_role return_role g.returned (closing ∷ rest) refl refl) in
    let past : PastParameter (re ++ (rt ++ (closing ∷ rest))) = (
      apart_from parameter_role receiver_role g.receiver _ refl (apart_from parameter_role return_role g.returned (closing ∷ rest) refl refl),
      apart_from vararg_role receiver_role g.receiver _ refl (apart_from vararg_role return_role g.returned (closing ∷ rest) refl refl),
    ) in
    let parameters = parameters_walked g.parameters (re ++ (rt ++ (closing ∷ rest))) f.parameters past in
    rw (
      append_assoc (ps ++ (re ++ rt)) (closing ∷ []) rest,
      append_assoc ps (re ++ rt) (closing ∷ rest),
      append_assoc re rt (closing ∷ rest),
      parameters,
      receiver,
      returned,
      one_bit g.has_receiver,
      signature_back g.signature f.signature,
      utf8_back g.name f.name,
    )

-- no type stands after a property that could be its own
abbrev PastProperty : List Row → Type 0
PastProperty rows = Apart receiver_role rows × Apart return_role rows

property_walked : (p : Property) (rest : List Row) → FineProperty p → PastProperty rest → walk_property (property_rows p ++ rest) ≡ some (taken_rows p rest)
unfolding walk_property property_rows
property_walked p rest f h =
    let type = type_walked return_role p.type rest f.type h.1 in
    let receiver = type_walked receiver_role p.receiver (type_rows return_role p.type ++ rest) f.receiver
    (apart_from receiver_role return_role p.type rest refl h.0) in
    rw (
      append_assoc (type_rows receiver_role p.receiver) (type_rows return_role p.type) rest,
      receiver,
      type,
      one_bit p.has_receiver,
      one_bit p.getter_is_default,
      one_bit p.setter_is_default,
      signature_back p.field f.field,
      signature_back p.getter f.getter,
      signature_back p.setter f.setter,
      utf8_back p.name f.name,
    )

property_begins : (p : Property) (rest : List Row) → PastProperty (property_rows p ++ rest)
unfolding property_rows
property_begins p rest = (refl, refl)

-- no type stands after an alias that could be its own
abbrev PastAlias : List Row → Type 0
PastAlias rows = Apart underlying_role rows × Apart expanded_role rows

alias_walked : (a : Alias) (rest : List Row) → FineAlias a → PastAlias rest → walk_alias (alias_rows a ++ rest) ≡ some (taken_rows a rest)
unfolding walk_alias alias_rows
alias_walked a rest f h =
    let expanded = type_walked expanded_role a.expanded rest f.expanded h.1 in
    let underlying = type_walked underlying_role a.underlying (type_rows expanded_role a.expanded ++ rest) f.underlying
    (apart_from underlying_role expanded_role a.expanded rest refl h.0) in
    rw (
      append_assoc (type_rows underlying_role a.underlying) (type_rows expanded_role a.expanded) rest,
      underlying,
      expanded,
      utf8_back a.name f.name,
    )

alias_begins : (a : Alias) (rest : List Row) → PastAlias (alias_rows a ++ rest)
unfolding alias_rows
alias_begins a rest = (refl, refl)

-- the whole sheet, to its last row
pub sheet_walked : (kind : ℕ) (d : Declarations) → FineDeclarations d → walk_sheet (declaration_rows kind d) ≡ some (taken_rows (sheet_of kind d) [])
unfolding walk_sheet declaration_rows
sheet_walked kind d f =
    let fs = concat (map closed_function d.functions) in
    let ps = concat (map property_rows d.properties) in
    let xs = concat (map alias_rows d.aliases) in
    let counted = row 9 (num 2 (length d.aliases) ∷ []) in
    let constructors = list-walked walk_constructor closed_of closed_constructor FineConstructor Anything constructor_walked (λ a rest. tt)
    d.constructors (fs ++ (ps ++ (counted ∷ xs))) f.constructors tt in
    let functions = list-walked walk_function closed_function_of closed_function FineFunction Anything function_walked (λ a rest. tt)
    d.functions (ps ++ (counted ∷ xs)) f.functions tt in
    let properties = list-walked walk_property (λ p. p) property_rows FineProperty PastProperty property_walked property_begins
    d.properties (counted ∷ xs) f.properties (refl, refl) in
    let aliases = list-walked walk_alias (λ a. a) alias_rows FineAlias PastAlias alias_walked alias_begins d.aliases [] f.aliases (tt, tt) in
    rw (constructors, functions, properties, ← append-nil xs, aliases, map_same d.properties, map_same d.aliases, text_back d.name f.name)
