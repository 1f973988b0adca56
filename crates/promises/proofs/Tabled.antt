-- The rows of fine declarations are records of the table, and every text of theirs is well-formed UTF-8.
-- Assumes nothing.
use mathlib.Core.Path.{refl}
use mathlib.Core.Bool.{Bool}
use mathlib.Core.List.{List, [], ◌∷◌, ◌++◌, map}
use mathlib.Core.Option.{Option, none, some}
use Prim.Native.Nat.{ℕ, ◌^◌, ◌<◌}
use native.Mathlib.Omega.{arith}
use lib.ListN.{length}
use Rattle.foundation.specs.Choices.{map_option, concat, All, IfSome}
use Rattle.foundation.specs.Texts.{Text}
use Rattle.foundation.proofs.ChoiceLaws.{all_append, all-concat, all_map}
use Rattle.characters.specs.Characters.{utf8}
use Rattle.characters.specs.WellFormed.{WellFormed}
use Rattle.characters.specs.told.CharactersTold.{Characters}
use Rattle.characters.proofs.Utf8Laws.{utf8_well_formed}
use Rattle.sheet.specs.Rows.{bit, Row}
use Rattle.sheet.proofs.ReadBack.{InTable, bit-fits}
use Rattle.sheet.proofs.RefsInOrder.{CellHas, RowHas}
use Rattle.declaration_rows.specs.Declarations.{Types, no_types, and_type, Ty, single, Signature, Parameter, Constructor, Function, Property, Alias, Declarations}
use Rattle.declaration_rows.specs.Rows.{
  return_role,
  receiver_role,
  parameter_role,
  vararg_role,
  argument_role,
  underlying_role,
  expanded_role,
  types_rows,
  type_rows,
  parameter_rows,
  parameters_rows,
  constructor_rows,
  function_rows,
  property_rows,
  alias_rows,
  aliases_rows,
}
use Rattle.schema.proofs.Fine.{FineTypes, FineTy, single_fine, FineParameter, FineSignature, FineConstructor, FineFunction, FineProperty, FineAlias, FineDeclarations}
use Rattle.descriptors.specs.Defaults.{Parts, function_parts, constructor_parts, descriptor, default_row, closed_constructor, closed_function}
use Rattle.descriptors.proofs.WellFormedLaws.{function_well_formed, constructor_well_formed}
use Rattle.declarations.specs.Payload.{declaration_rows}

-- a record of the table with well-formed texts
abbrev pub Good : Row → Type 0
Good r = InTable r × RowHas WellFormed r

text_well_formed : (name : Option Text) → IfSome Characters name → IfSome WellFormed (map_option utf8 name)
text_well_formed none h = tt
text_well_formed (some t) h = utf8_well_formed t h

bit_has : (b : Bool) → CellHas WellFormed (bit b)
bit_has Bool.true = tt
bit_has Bool.false = tt

types_good : (role : ℕ) (ts : Types) → role < 256 → FineTypes ts → All Good (types_rows role ts)
unfolding types_rows
types_good role no_types r f = tt
types_good role (and_type projection nullable name arguments after) r f = (
  (((refl, omega arith), (bit-fits nullable, (tt, ((refl, omega arith), ((refl, omega arith), tt))))), (tt, (bit_has nullable, (text_well_formed name f.2, (tt, (tt, tt)))))),
  all_append Good (types_rows argument_role arguments) (types_rows role after) (types_good argument_role arguments (omega arith) f.4)
      (types_good role after r f.5),
)

type_good : (role : ℕ) (t : Option Ty) → role < 256 → IfSome FineTy t → All Good (type_rows role t)
type_good role none r f = tt
type_good role (some t) r f = types_good role (single t) r (single_fine f)

parameter_good : (p : Parameter) → FineParameter p → All Good (parameter_rows p)
unfolding parameter_rows
parameter_good p f = (
  ((tt, (bit-fits p.declares_default, tt)), (text_well_formed p.name f.name, (bit_has p.declares_default, tt))),
  all_append Good (type_rows parameter_role p.type) (type_rows vararg_role p.vararg_element) (type_good parameter_role p.type (omega arith) f.type)
      (type_good vararg_role p.vararg_element (omega arith) f.vararg_element),
)

parameters_good : (ps : List Parameter) → All FineParameter ps → All Good (parameters_rows ps)
parameters_good ps f = all-concat Good (map parameter_rows ps) (all_map FineParameter (All Good) parameter_rows parameter_good ps f)

-- name and descriptor of a signature
name_well_formed : (s : Option Signature) → IfSome FineSignature s → IfSome WellFormed (map_option utf8 (map_option (λ t. t.name) s))
name_well_formed none f = tt
name_well_formed (some s) f = utf8_well_formed s.name f.name

descriptor_well_formed : (s : Option Signature) → IfSome FineSignature s → IfSome WellFormed (map_option utf8 (map_option (λ t. t.descriptor) s))
descriptor_well_formed none f = tt
descriptor_well_formed (some s) f = utf8_well_formed s.descriptor f.descriptor

default_good : (p : Option Parts) → IfSome WellFormed (map_option descriptor p) → Good (default_row p)
default_good p w = ((tt, tt), (w, tt))

constructor_good : (c : Constructor) → FineConstructor c → All Good (closed_constructor c)
unfolding closed_constructor constructor_rows
constructor_good c f =
    let s = c.signature in (
      (
        ((refl, omega (arith, f.flags)), (tt, (tt, ((refl, omega (arith, f.count)), tt)))),
        (tt, (name_well_formed s f.signature, (descriptor_well_formed s f.signature, (tt, tt)))),
      ),
      all_append Good (parameters_rows c.parameters) (default_row (constructor_parts c) ∷ []) (parameters_good c.parameters f.parameters)
          (default_good (constructor_parts c) (constructor_well_formed c f), tt),
    )

function_good : (g : Function) → FineFunction g → All Good (closed_function g)
unfolding closed_function function_rows
function_good g f =
    let s = g.signature in
    let re = type_rows receiver_role g.receiver in
    let rt = type_rows return_role g.returned in
    let ps = parameters_rows g.parameters in
    let types = all_append Good re rt
    (type_good receiver_role g.receiver (omega arith) f.receiver) (type_good return_role g.returned (omega arith) f.returned) in
    let owned = all_append Good ps (re ++ rt) (parameters_good g.parameters f.parameters) types in (
      (
        (tt, ((refl, omega (arith, f.flags)), (tt, (tt, (bit-fits g.has_receiver, ((refl, omega (arith, f.count)), tt)))))),
        (
          utf8_well_formed g.name f.name,
          (
            tt,
            (
              name_well_formed s f.signature,
              (
                descriptor_well_formed s f.signature,
                (bit_has g.has_receiver, (tt, tt)),
              ),
            ),
          ),
        ),
      ),
      all_append Good (ps ++ (re ++ rt)) (default_row (function_parts g) ∷ []) owned (default_good (function_parts g) (function_well_formed g f), tt),
    )

property_good : (p : Property) → FineProperty p → All Good (property_rows p)
unfolding property_rows
property_good p f = (
  (
    (
      tt,
      (
        (refl, omega (arith, f.flags)),
        (
          bit-fits p.has_receiver,
          (
            bit-fits p.getter_is_default,
            (
              bit-fits p.setter_is_default,
              (tt, (tt, (tt, (tt, (tt, (tt, tt)))))),
            ),
          ),
        ),
      ),
    ),
    (
      utf8_well_formed p.name f.name,
      (
        tt,
        (
          bit_has p.has_receiver,
          (
            bit_has p.getter_is_default,
            (
              bit_has p.setter_is_default,
              (
                name_well_formed p.field f.field,
                (
                  descriptor_well_formed p.field f.field,
                  (
                    name_well_formed p.getter f.getter,
                    (
                      descriptor_well_formed p.getter f.getter,
                      (name_well_formed p.setter f.setter, (descriptor_well_formed p.setter f.setter, tt)),
                    ),
                  ),
                ),
              ),
            ),
          ),
        ),
      ),
    ),
  ),
  all_append Good (type_rows receiver_role p.receiver) (type_rows return_role p.type) (type_good receiver_role p.receiver (omega arith) f.receiver)
      (type_good return_role p.type (omega arith) f.type),
)

alias_good : (a : Alias) → FineAlias a → All Good (alias_rows a)
unfolding alias_rows
alias_good a f = (
  ((tt, ((refl, omega (arith, f.flags)), tt)), (utf8_well_formed a.name f.name, (tt, tt))),
  all_append Good (type_rows underlying_role a.underlying) (type_rows expanded_role a.expanded)
      (type_good underlying_role a.underlying (omega arith) f.underlying) (type_good expanded_role a.expanded (omega arith) f.expanded),
)

-- all aliases after their count
aliases_good : (xs : List Alias) → length xs < 2 ^ 16 → All FineAlias xs → All Good (aliases_rows xs)
aliases_good xs n f = (
  (((refl, omega arith), tt), (tt, tt)),
  all-concat Good (map alias_rows xs) (all_map FineAlias (All Good) alias_rows alias_good xs f),
)

pub rows_good : (kind : ℕ) (d : Declarations) → kind < 256 → FineDeclarations d → All Good (declaration_rows kind d)
unfolding declaration_rows
rows_good kind d k f =
    let cs = all-concat Good (map closed_constructor d.constructors) (all_map FineConstructor (All Good) closed_constructor constructor_good d.constructors f.constructors) in
    let fs = all-concat Good (map closed_function d.functions) (all_map FineFunction (All Good) closed_function function_good d.functions f.functions) in
    let ps = all-concat Good (map property_rows d.properties) (all_map FineProperty (All Good) property_rows property_good d.properties f.properties) in
    let after = concat (map property_rows d.properties) ++ aliases_rows d.aliases in (
      (
        (
          (refl, omega arith),
          (
            tt,
            (
              (refl, omega (arith, f.flags)),
              (
                (refl, omega (arith, f.constructor_count)),
                (
                  (refl, omega (arith, f.function_count)),
                  ((refl, omega (arith, f.property_count)), tt),
                ),
              ),
            ),
          ),
        ),
        (tt, (text_well_formed d.name f.name, (tt, (tt, (tt, (tt, tt)))))),
      ),
      all_append Good (concat (map closed_constructor d.constructors)) (concat (map closed_function d.functions) ++ after) cs
          (all_append Good (concat (map closed_function d.functions)) after fs
          (all_append Good (concat (map property_rows d.properties)) (aliases_rows d.aliases) ps (aliases_good d.aliases f.alias_count f.aliases))),
    )
