-- What the declarations take on a sheet, against the bytes of the message that they were read from: twelve a byte, and nine a type.
-- Assumes nothing.
use mathlib.Core.Path.{◌≡◌, refl}
use mathlib.Core.Bool.{Bool, true, false}
use mathlib.Core.List.{List, [], ◌∷◌, ◌++◌, map}
use mathlib.Core.Option.{Option, none, some}
use Prim.Native.Nat.{ℕ, ◌+◌, ◌*◌, ◌≤◌}
use native.Mathlib.Omega.{arith}
use lib.ListN.{length}
use Rattle.foundation.specs.Choices.{concat, IfSome, All}
use Rattle.foundation.specs.Results.{Res, ok, refused}
use Rattle.foundation.specs.Texts.{Text}
use Rattle.foundation.proofs.ResultLaws.{Gives}
use Rattle.fields.specs.Fields.{Class-constructor, Class-function, Class-property, Class-type_alias, Package-function, Package-property, Package-type_alias, Constructor-value_parameter, Function-name, Function-value_parameter, Property-name, Property-property_signature, TypeAlias-name}
use Rattle.wire.specs.Wire.{Message}
use Rattle.wire.specs.Messages.{values, index, message, messages}
use Rattle.names.specs.Names.{Names}
use Rattle.sheet.specs.Rows.{Row}
use Rattle.sheet.proofs.RowLaws.{body_length, rows_length, rows_length_append}
use Rattle.declaration_rows.specs.Declarations.{Types, no_types, and_type, Ty, single, Parameter, Constructor, Function, Property, Alias, Declarations}
use Rattle.declaration_rows.specs.Rows.{argument_role, types_rows, type_rows, parameter_rows, parameters_rows, constructor_rows, function_rows, property_rows, alias_rows, aliases_rows}
use Rattle.schema.specs.Reading.{Read, lift, keep, kept, Scope, scope, name_in}
use Rattle.schema.specs.Types.{declared_type, type_table_in}
use Rattle.schema.specs.Members.{named, signature_in, field_in, of_signature, parameter_in, parameters_in, list_in, constructor_in, function_in, property_in, alias_in, Head, head_in, lists_in, after_table, body_in}
use Rattle.schema.specs.told.TypeSizes.{
  size_if_some,
  size_of_all,
  size_of,
  type_size,
  parameter_size,
  constructor_size,
  function_size,
  property_size,
  alias_size,
  declarations_size,
}
use Rattle.schema.proofs.Fine.{Reads, reads-pure, reads-lift, reads-bind, reads-if_some, reads_weaken, reads-each}
use Rattle.descriptors.specs.Defaults.{default_row, constructor_parts, closed_constructor, closed_function}
use Rattle.declarations.specs.Payload.{declaration_rows}
use Rattle.promises.proofs.Weights.{weight, weight_of, embedded, messages-weight, many-weight, index-weight, one-weight, two_weight, three_weight, four_weight}

-- What its records take without its types: a constructor with its kind 7, a function with its, a property, an alias, with six bytes a parameter.
abbrev pub constructor_cost : Constructor → ℕ
constructor_cost c = 24 + 6 * length c.parameters

abbrev pub function_cost : Function → ℕ
function_cost f = 29 + 6 * length f.parameters

abbrev pub property_cost : Property → ℕ
property_cost p = 40

abbrev pub alias_cost : Alias → ℕ
alias_cost a = 13

abbrev pub members_cost : Declarations → ℕ
members_cost d =
    size_of_all constructor_cost d.constructors + size_of_all function_cost d.functions + size_of_all property_cost d.properties
    + size_of_all alias_cost d.aliases

-- The rows are as long as that, ten bytes a type, twenty for the head, and three for kind 9.
module _ {A : Type 0} (rows : A → List Row) (cost size : A → ℕ) (one : (a : A) → rows_length (rows a) ≡ cost a + 10 * size a) where
  all-length : (xs : List A) → rows_length (concat (map rows xs)) ≡ size_of_all cost xs + 10 * size_of_all size xs
  unfolding rows_length
  all-length [] = refl
  all-length (x ∷ xs) = omega (arith, rows_length_append (rows x) (concat (map rows xs)), one x, all-length xs)

types-length : (role : ℕ) (ts : Types) → rows_length (types_rows role ts) ≡ 10 * size_of ts
unfolding types_rows rows_length body_length
types-length role no_types = refl
types-length role (and_type projection nullable name arguments after) =
    omega (
      arith,
      rows_length_append (types_rows argument_role arguments) (types_rows role after),
      types-length argument_role arguments,
      types-length role after,
    )

type-length : (role : ℕ) (t : Option Ty) → rows_length (type_rows role t) ≡ 10 * size_if_some type_size t
unfolding rows_length
type-length role none = refl
type-length role (some t) = omega (arith, types-length role (single t))

parameter_length : (p : Parameter) → rows_length (parameter_rows p) ≡ 6 + 10 * parameter_size p
unfolding parameter_rows rows_length body_length
parameter_length p = simp (rows_length_append, type-length) (omega arith)

six_each : (ps : List Parameter) → size_of_all (λ p. 6) ps ≡ 6 * length ps
six_each [] = refl
six_each (p ∷ ps) = omega (arith, six_each ps)

parameters-length : (ps : List Parameter) → rows_length (parameters_rows ps) ≡ 6 * length ps + 10 * size_of_all parameter_size ps
parameters-length ps = omega (arith, all-length parameter_rows (λ p. 6) parameter_size parameter_length ps, six_each ps)

constructor_length : (c : Constructor) → rows_length (closed_constructor c) ≡ constructor_cost c + 10 * constructor_size c
unfolding closed_constructor constructor_rows rows_length body_length
constructor_length c =
    omega (arith, rows_length_append (parameters_rows c.parameters) (default_row (constructor_parts c) ∷ []), parameters-length c.parameters)

function_length : (f : Function) → rows_length (closed_function f) ≡ function_cost f + 10 * function_size f
unfolding closed_function function_rows rows_length body_length
function_length f = simp (rows_length_append, type-length, parameters-length) (omega arith)

property_length_lem : (p : Property) → rows_length (property_rows p) ≡ property_cost p + 10 * property_size p
unfolding property_rows rows_length body_length
property_length_lem p = simp (rows_length_append, type-length) (omega arith)

alias_length : (a : Alias) → rows_length (alias_rows a) ≡ alias_cost a + 10 * alias_size a
unfolding alias_rows rows_length body_length
alias_length a = simp (rows_length_append, type-length) (omega arith)

pub declarations-length : (kind : ℕ) (d : Declarations) → rows_length (declaration_rows kind d) ≡ 23 + members_cost d + 10 * declarations_size d
unfolding declaration_rows rows_length body_length
declarations-length kind d =
    let cs = concat (map closed_constructor d.constructors) in
    let fs = concat (map closed_function d.functions) in
    let ps = concat (map property_rows d.properties) in
    omega (
      arith,
      rows_length_append cs (fs ++ (ps ++ aliases_rows d.aliases)),
      rows_length_append fs (ps ++ aliases_rows d.aliases),
      rows_length_append ps (aliases_rows d.aliases),
      all-length closed_constructor constructor_cost constructor_size constructor_length d.constructors,
      all-length closed_function function_cost function_size function_length d.functions,
      all-length property_rows property_cost property_size property_length_lem d.properties,
      all-length alias_rows alias_cost alias_size alias_length d.aliases,
    )

-- A member takes no more than twelve bytes a byte of its message, with the two of its field: so do those of a list.
any_read : {A : Type 0} (m : Read A) → Reads (λ a. Unit {0}) m
any_read {A} m = record { at = λ l. any (m l) }
  where
    any : (r : Res (A × ℕ)) → Gives (λ a. Unit {0}) r
    any (ok a) = tt
    any (refused c p) = tt

abbrev Costs : {A : Type 0} → (A → ℕ) → Message → Option A → Type 0
Costs cost m = IfSome λ a. cost a ≤ 12 * embedded m

keep_costs : {A : Type 0} (cost : A → ℕ) (m : Message) (o : Option A) (xs : List A) (n : ℕ) → Costs cost m o → size_of_all cost xs ≤ 12 * n
    → size_of_all cost (keep o xs) ≤ 12 * (embedded m + n)
keep_costs cost m none xs n p q = omega arith
keep_costs cost m (some a) xs n p q = omega arith

module _ {A : Type 0} (cost : A → ℕ) (read : Message → Read (Option A)) (one : (m : Message) → Reads (Costs cost m) (read m)) where
  kept-costs : (ms : List Message) → Reads (λ xs. size_of_all cost xs ≤ 12 * size_of_all embedded ms) (kept read ms)
  unfolding kept
  kept-costs [] = reads-pure (omega arith)
  kept-costs (m ∷ ms) =
      reads-bind (one m) λ a p. reads-bind (kept-costs ms) λ xs q. reads-pure (keep_costs cost m a xs (size_of_all embedded ms) p q)

  list-costs : (k : ℕ) (m : Message) → Reads (λ xs. size_of_all cost xs ≤ 12 * weight_of (values k m)) (list_in read k m)
  unfolding list_in
  list-costs k m = reads-bind (reads-lift (messages k m) (messages-weight k m)) λ ms w. reads_weaken (kept-costs ms) λ xs q. omega arith

-- two bytes a parameter, and two for a name
parameters_few : (s : Scope) (k : ℕ) (m : Message) → Reads (λ ps. 2 * length ps ≤ weight_of (values k m)) (parameters_in s k m)
unfolding parameters_in
parameters_few s k m =
    reads-bind (reads-lift (messages k m) (messages-weight k m)) λ ms w.
    reads_weaken (reads-each (λ x p. any_read (parameter_in s x)) ms (all_any ms)) λ ps q. omega (arith, many-weight ms, q.1)
  where
    all_any : (ms : List Message) → All (λ x. Unit {0}) ms
    all_any [] = tt
    all_any (x ∷ ms) = (tt, all_any ms)

name-weight : (s : Scope) (k : ℕ) (m : Message) → Reads (IfSome λ t. 2 ≤ weight_of (values k m)) (name_in s k m)
unfolding name_in
name-weight s k m =
    reads-if_some (index k m) (index-weight k m) (reads-pure tt) λ i h. reads_weaken (any_read _) λ o t. there o h
  where
    there : (o : Option Text) → 2 ≤ weight_of (values k m) → IfSome (λ t. 2 ≤ weight_of (values k m)) o
    there none h = tt
    there (some t) h = h

named_costs : {A : Type 0} (P : Type 0) (Q : A → Type 0) (read : Text → Read A) (o : Option Text) → IfSome (λ t. P) o
    → ((t : Text) → P → Reads Q (read t)) → Reads (IfSome Q) (named o read)
named_costs P Q read none p h = reads-pure tt
named_costs P Q read (some t) p h = reads-bind (h t p) λ a q. reads-pure q

module _ (s : Scope) where
  constructor-costs : (m : Message) → Reads (Costs constructor_cost m) (constructor_in s m)
  unfolding constructor_in
  constructor-costs m =
      reads-bind (parameters_few s _ m) λ parameters p.
      reads-bind (any_read (signature_in s _ _ m)) λ signature t.
      let h : 24 + 6 * length parameters ≤ 12 * embedded m = omega (arith, p, one-weight Constructor-value_parameter m) in reads-pure h

  function-costs : (m : Message) → Reads (Costs function_cost m) (function_in s m)
  unfolding function_in
  function-costs m =
      reads-bind (name-weight s _ m) λ n w. named_costs _ _ _ n w λ name w.
      reads-bind (parameters_few s _ m) λ parameters p.
      reads-bind (any_read (declared_type s _ _ m)) λ receiver t.
      reads-bind (any_read (signature_in s _ _ m)) λ signature t.
      reads-bind (any_read (declared_type s _ _ m)) λ returned t.
      let h : 29 + 6 * length parameters ≤ 12 * embedded m = omega (arith, p, w, two_weight Function-name Function-value_parameter m (omega arith)) in
      reads-pure h

  property-costs : (m : Message) → Reads (Costs property_cost m) (property_in s m)
  unfolding property_in
  property-costs m =
      reads-bind (name-weight s _ m) λ n w. named_costs _ _ _ n w λ name w.
      reads-bind (any_read (lift (message Property-property_signature m))) λ signature t.
      reads-bind (any_read (of_signature (field_in s) signature)) λ field t.
      reads-bind (any_read (declared_type s _ _ m)) λ receiver t.
      reads-bind (any_read (of_signature (signature_in s none _) signature)) λ getter t.
      reads-bind (any_read (of_signature (signature_in s none _) signature)) λ setter t.
      reads-bind (any_read (declared_type s _ _ m)) λ type t.
      let h : 40 ≤ 12 * embedded m = omega (arith, w, one-weight Property-name m) in reads-pure h

  alias-costs : (m : Message) → Reads (Costs alias_cost m) (alias_in s m)
  unfolding alias_in
  alias-costs m =
      reads-bind (name-weight s _ m) λ n w. named_costs _ _ _ n w λ name w.
      reads-bind (any_read (declared_type s _ _ m)) λ underlying t.
      reads-bind (any_read (declared_type s _ _ m)) λ expanded t.
      let h : 13 ≤ 12 * embedded m = omega (arith, w, one-weight TypeAlias-name m) in reads-pure h

  lists-cost : (class : Bool) (h : Head) (m : Message) → Reads (λ d. members_cost d ≤ 12 * weight m) (lists_in class h s m)
  unfolding lists_in
  lists-cost true h m =
      reads-bind (list-costs constructor_cost (constructor_in s) constructor-costs _ m) λ constructors p.
      reads-bind (list-costs function_cost (function_in s) function-costs _ m) λ functions q.
      reads-bind (list-costs property_cost (property_in s) property-costs _ m) λ properties r.
      reads-bind (list-costs alias_cost (alias_in s) alias-costs _ m) λ aliases t.
      reads-pure (omega (arith, four_weight Class-constructor Class-function Class-property Class-type_alias m (omega arith) (omega arith) (omega arith)))
  lists-cost false h m =
      reads-bind (list-costs function_cost (function_in s) function-costs _ m) λ functions q.
      reads-bind (list-costs property_cost (property_in s) property-costs _ m) λ properties r.
      reads-bind (list-costs alias_cost (alias_in s) alias-costs _ m) λ aliases t.
      reads-pure (omega (arith, three_weight Package-function Package-property Package-type_alias m (omega arith) (omega arith)))

pub body_costs : (class : Bool) (names : Names) (m : Message) → Reads (λ d. members_cost d ≤ 12 * weight m) (body_in class names m)
unfolding body_in after_table
body_costs class names m =
    reads-bind (any_read (type_table_in _ m)) λ table t. reads-bind (any_read (head_in class (scope names table) m)) λ h t. lists-cost (scope names table) class h m
