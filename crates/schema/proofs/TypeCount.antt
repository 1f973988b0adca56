-- The types that a reading enters are those in what it gives, and those are the rows of kind 6.
-- Assumes nothing.
use mathlib.Core.Path.{◌≡◌, refl}
use mathlib.Core.Bool.{Bool, true, false}
use mathlib.Core.List.{List, [], ◌∷◌, ◌++◌, map}
use mathlib.Core.Option.{Option, none, some}
use Prim.Native.Nat.{ℕ, zero, suc, ◌+◌}
use native.Mathlib.Nat.{add-zero}
use native.Mathlib.Omega.{arith}
use lib.Dec.{eqb, ltb}
use lib.ListN.{get_elem?}
use Rattle.foundation.specs.Choices.{if_some, map_option, or_else, concat}
use Rattle.foundation.specs.Results.{Res, ok, refused}
use Rattle.foundation.specs.Texts.{Text}
use Rattle.foundation.proofs.ChoiceLaws.{if_ind}
use Rattle.foundation.proofs.ResultLaws.{Gives, gives_bind, gives_weaken}
use Rattle.wire.specs.Wire.{Message}
use Rattle.wire.specs.Messages.{index, message, messages}
use Rattle.names.specs.Names.{Names, string, qualified_name}
use Rattle.sheet.specs.Rows.{Row}
use Rattle.declaration_rows.specs.Declarations.{star, Types, no_types, and_type, Ty, Argument, projected, types_of, single, Signature, Parameter, Constructor, Function, Property, Alias}
use Rattle.schema.specs.Reading.{Read, pure, ◌>>=◌, lift, enter, keep, kept, Scope, scope, name_in, class_name_in, allowance, each}
use Rattle.schema.specs.Types.{Walk, max_depth, resolve_at, type_in, projection_in, argument_in, parse_at, type_at, declared_type, no_table, type_table_in}
use Rattle.schema.specs.Members.{
  named,
  signature_of,
  signature_in,
  field_of,
  forgiven,
  field_in,
  of_signature,
  parameter_in,
  parameters_in,
  list_in,
  constructor_in,
  function_in,
  property_in,
  alias_in,
  Head,
  head_in,
  constructors_in,
  function_field,
  property_field,
  alias_field,
  lists_in,
  after_table,
  body_in,
}
use Rattle.declaration_rows.specs.Rows.{
  argument_role,
  types_rows,
  type_rows,
  parameter_rows,
  parameters_rows,
  constructor_rows,
  function_rows,
  property_rows,
  alias_rows,
}
use Rattle.schema.specs.Counting.{count_kind}
use Rattle.schema.specs.told.TypeSizes.{
  size_if_some,
  size_of_all,
  size_of,
  type_size,
  argument_size,
  parameter_size,
  constructor_size,
  function_size,
  property_size,
  alias_size,
  declarations_size,
}

-- Of what a reading gives, n types were entered before it, and all others by it.
pub record Enters {A : Type 0} (n : ℕ) (size : A → ℕ) (m : Read A) : Type 0 where
  pub at : (l : ℕ) → Gives (λ r. size r.0 + r.1 ≡ n + l) (m l)

-- It enters no type.
abbrev pub Quiet : {A : Type 0} → Read A → Type 0
Quiet = Enters 0 (λ a. 0)

module _ {A : Type 0} {n : ℕ} {size : A → ℕ} where
  pub enters-pure : (a : A) → size a ≡ n → Enters n size (pure a)
  enters-pure a e = record { at = λ l. omega arith }

  pub enters-enter : {m : Read A} → Enters (suc n) size m → Enters n size (enter m)
  enters-enter {m} h = record { at = entered }
    where
      entered : (l : ℕ) → Gives (λ r. size r.0 + r.1 ≡ n + l) (enter m l)
      entered zero = tt
      entered (suc l) = gives_weaken _ _ (m l) (h.at l) λ r p. omega arith

  pub enters-if_some : {B : Type 0} (o : Option B) {m : Read A} {f : B → Read A} → Enters n size m → ((b : B) → Enters n size (f b))
      → Enters n size (if_some o m f)
  enters-if_some none h g = h
  enters-if_some (some a) h g = g a

pub quiet_lift : {A : Type 0} (r : Res A) → Quiet (lift r)
quiet_lift (ok a) = record { at = λ l. refl }
quiet_lift (refused c p) = record { at = λ l. tt }

pub enters_bind : {A B : Type 0} {n : ℕ} {size : A → ℕ} {whole : B → ℕ} {m : Read A} {f : A → Read B} → Enters 0 size m
    → ((a : A) → Enters (n + size a) whole (f a)) → Enters n whole (m >>= f)
enters_bind {m} {f} h g = record {
  at = λ l.
      gives_bind _ _ (m l) (λ r. f r.0 r.1) (h.at l) λ r p.
      gives_weaken _ _ (f r.0 r.1) ((g r.0).at r.1) λ s q. omega arith;
}

pub enters_after : {A B : Type 0} {n : ℕ} {whole : B → ℕ} {m : Read A} {f : A → Read B} → Quiet m → ((a : A) → Enters n whole (f a))
    → Enters n whole (m >>= f)
enters_after h g = enters_bind h λ a. rw add-zero (g a)

keep-size : {A : Type 0} (size : A → ℕ) (o : Option A) (xs : List A)
    → size_of_all size (keep o xs) ≡ 0 + size_if_some size o + size_of_all size xs
keep-size size none xs = omega arith
keep-size size (some x) xs = omega arith

pub enters_kept : {A : Type 0} {size : A → ℕ} {f : Message → Read (Option A)} → ((m : Message) → Enters 0 (size_if_some size) (f m))
    → (ms : List Message) → Enters 0 (size_of_all size) (kept f ms)
unfolding kept
enters_kept h [] = enters-pure [] refl
enters_kept {size} h (m ∷ ms) = enters_bind (h m) λ a. enters_bind (enters_kept h ms) λ xs. enters-pure _ (keep-size size a xs)

pub enters_each : {A : Type 0} {size : A → ℕ} {f : Message → Read A} → ((m : Message) → Enters 0 size (f m))
    → (ms : List Message) → Enters 0 (size_of_all size) (each f ms)
unfolding each
enters_each h [] = enters-pure [] refl
enters_each h (m ∷ ms) = enters_bind (h m) λ a. enters_bind (enters_each h ms) λ xs. enters-pure _ (omega arith)

-- names
module _ (s : Scope) (n : ℕ) (m : Message) where
  pub quiet-name_in : Quiet (name_in s n m)
  unfolding name_in
  quiet-name_in = enters-if_some (index n m) (enters-pure none refl) λ i. quiet_lift (string s.names i)

  pub quiet-class_name_in : Quiet (class_name_in s n m)
  unfolding class_name_in
  quiet-class_name_in = enters-if_some (index n m) (enters-pure none refl) λ i. quiet_lift (qualified_name s.names i)

-- types, for a walk that enters those that it gives
types_of-size : (ts : List Argument) → size_of (types_of ts) ≡ size_of_all argument_size ts
types_of-size [] = refl
types_of-size (a ∷ ts) = omega (arith, types_of-size ts)

projected-size : (p : ℕ) (o : Option Ty) → size_if_some argument_size (map_option (projected p) o) ≡ 0 + size_if_some type_size o
projected-size p none = refl
projected-size p (some t) = omega arith

module _ (walk : Walk) (h : (d : ℕ) (m : Message) → Enters 0 type_size (walk d m)) (s : Scope) where
  pub enters-resolve_at : (d i : ℕ) → Enters 0 (size_if_some type_size) (resolve_at walk s d i)
  unfolding resolve_at
  enters-resolve_at d i =
      if_ind (Enters 0 (size_if_some type_size)) (ltb d max_depth) (λ t.
      enters-if_some (get_elem? s.table.types i) (enters-pure none refl) λ m.
      enters_bind (h (d + 1) m) λ t. enters-pure _ (omega arith)) λ t. enters-pure none refl

  pub enters-type_in : (d inline indexed : ℕ) (m : Message) → Enters 0 (size_if_some type_size) (type_in walk s d inline indexed m)
  unfolding type_in
  enters-type_in d inline indexed m =
      enters_after (quiet_lift (message inline m)) λ t.
      enters-if_some t (enters-if_some (index indexed m) (enters-pure none refl) (enters-resolve_at d)) λ inner.
      enters_bind (h d inner) λ it. enters-pure _ (omega arith)

  pub enters-argument_in : (d : ℕ) (m : Message) → Enters 0 (size_if_some argument_size) (argument_in walk s d m)
  unfolding argument_in
  enters-argument_in d m =
      if_ind (Enters 0 (size_if_some argument_size)) (eqb (projection_in m) star) (λ t. enters-enter (enters-pure _ refl)) λ t.
      enters_bind (enters-type_in d _ _ m) λ o. enters-pure _ (projected-size (projection_in m) o)

  pub enters-parse_at : (d : ℕ) (m : Message) → Enters 0 type_size (parse_at walk s d m)
  unfolding parse_at
  enters-parse_at d m =
      enters-enter (
      enters_after (quiet_lift (messages _ m)) λ arguments.
      enters_bind (enters_kept (enters-argument_in (d + 1)) arguments) λ ts.
      enters_after (quiet-class_name_in s _ m) λ name. enters-pure _ (omega (arith, types_of-size ts)))

pub enters_type_at : (k : ℕ) (s : Scope) (d : ℕ) (m : Message) → Enters 0 type_size (type_at k s d m)
unfolding type_at
enters_type_at zero s d m = record { at = λ l. tt }
enters_type_at (suc k) s d m = enters-parse_at (type_at k s) (enters_type_at k s) s d m

pub enters_declared_type : (s : Scope) (inline indexed : ℕ) (m : Message) → Enters 0 (size_if_some type_size) (declared_type s inline indexed m)
unfolding declared_type
enters_declared_type s = enters-type_in (type_at allowance s) (enters_type_at allowance s) s 0

pub quiet_type_table_in : (n : ℕ) (m : Message) → Quiet (type_table_in n m)
unfolding type_table_in
quiet_type_table_in n m =
    enters_after (quiet_lift (message _ m)) λ t.
    enters-if_some t (enters-pure no_table refl) λ table. enters_after (quiet_lift (messages _ table)) λ types. enters-pure _ refl

-- signatures
module _ (s : Scope) where
  pub quiet-signature_of : (fallback : Option Text) (m : Message) → Quiet (signature_of s fallback m)
  unfolding signature_of
  quiet-signature_of fallback m =
      enters_after (quiet-name_in s _ m) λ own.
      enters-if_some (or_else own fallback) (enters-pure none refl) λ name.
      enters_after (quiet-name_in s _ m) λ descriptor. enters-pure _ refl

  pub quiet-signature_in : (fallback : Option Text) (n : ℕ) (m : Message) → Quiet (signature_in s fallback n m)
  unfolding signature_in
  quiet-signature_in fallback n m =
      enters_after (quiet_lift (message n m)) λ t. enters-if_some t (enters-pure none refl) (quiet-signature_of fallback)

  pub quiet-field_of : (m : Message) → Quiet (field_of s m)
  unfolding field_of
  quiet-field_of m =
      enters_after (quiet-name_in s _ m) λ name.
      enters_after (quiet-name_in s _ m) λ descriptor. enters-pure _ refl

  pub quiet-field_in : (m : Message) → Quiet (field_in s m)
  unfolding field_in
  quiet-field_in m = enters-if_some (forgiven (message _ m)) (enters-pure none refl) quiet-field_of

pub quiet_of_signature : {read : Message → Read (Option Signature)} → ((m : Message) → Quiet (read m)) → (o : Option Message)
    → Quiet (of_signature read o)
quiet_of_signature h none = enters-pure none refl
quiet_of_signature h (some m) = h m

-- members
pub enters_named : {A : Type 0} {size : A → ℕ} {read : Text → Read A} (o : Option Text) → ((t : Text) → Enters 0 size (read t))
    → Enters 0 (size_if_some size) (named o read)
enters_named none h = enters-pure none refl
enters_named (some t) h = enters_bind (h t) λ a. enters-pure _ (omega arith)

pub enters_list_in : {A : Type 0} {size : A → ℕ} {read : Message → Read (Option A)} → ((m : Message) → Enters 0 (size_if_some size) (read m))
    → (n : ℕ) (m : Message) → Enters 0 (size_of_all size) (list_in read n m)
unfolding list_in
enters_list_in h n m = enters_after (quiet_lift (messages n m)) (enters_kept h)

module _ (s : Scope) where
  pub enters-parameter_in : (m : Message) → Enters 0 parameter_size (parameter_in s m)
  unfolding parameter_in
  enters-parameter_in m =
      enters_after (quiet-name_in s _ m) λ name.
      enters_bind (enters_declared_type s _ _ m) λ type.
      enters_bind (enters_declared_type s _ _ m) λ vararg.
      enters-pure _ (omega arith)

  enters-parameters_in : (n : ℕ) (m : Message) → Enters 0 (size_of_all parameter_size) (parameters_in s n m)
  unfolding parameters_in
  enters-parameters_in n m = enters_after (quiet_lift (messages n m)) (enters_each enters-parameter_in)

  pub enters-constructor_in : (m : Message) → Enters 0 (size_if_some constructor_size) (constructor_in s m)
  unfolding constructor_in
  enters-constructor_in m =
      enters_bind (enters-parameters_in _ m) λ parameters.
      enters_after (quiet-signature_in s _ _ m) λ signature. enters-pure _ (omega arith)

  pub enters-function_in : (m : Message) → Enters 0 (size_if_some function_size) (function_in s m)
  unfolding function_in
  enters-function_in m =
      enters_after (quiet-name_in s _ m) λ n. enters_named n λ name.
      enters_bind (enters-parameters_in _ m) λ parameters.
      enters_bind (enters_declared_type s _ _ m) λ receiver.
      enters_after (quiet-signature_in s _ _ m) λ signature.
      enters_bind (enters_declared_type s _ _ m) λ returned. enters-pure _ (omega arith)

  pub enters-property_in : (m : Message) → Enters 0 (size_if_some property_size) (property_in s m)
  unfolding property_in
  enters-property_in m =
      enters_after (quiet-name_in s _ m) λ n. enters_named n λ name.
      enters_after (quiet_lift (message _ m)) λ signature.
      enters_after (quiet_of_signature (quiet-field_in s) signature) λ field.
      enters_bind (enters_declared_type s _ _ m) λ receiver.
      enters_after (quiet_of_signature (quiet-signature_in s _ _) signature) λ getter.
      enters_after (quiet_of_signature (quiet-signature_in s _ _) signature) λ setter.
      enters_bind (enters_declared_type s _ _ m) λ type. enters-pure _ (omega arith)

  pub enters-alias_in : (m : Message) → Enters 0 (size_if_some alias_size) (alias_in s m)
  unfolding alias_in
  enters-alias_in m =
      enters_after (quiet-name_in s _ m) λ n. enters_named n λ name.
      enters_bind (enters_declared_type s _ _ m) λ underlying.
      enters_bind (enters_declared_type s _ _ m) λ expanded. enters-pure _ (omega arith)

module _ (s : Scope) (class : Bool) (m : Message) where
  quiet-head_in : Quiet (head_in class s m)
  quiet-head_in = go class
    where
      go : (class : Bool) → Quiet (head_in class s m)
      go true = enters_after (quiet-class_name_in s _ m) λ name. enters-pure _ refl
      go false = enters-pure _ refl

  enters-constructors_in : Enters 0 (size_of_all constructor_size) (constructors_in class s m)
  enters-constructors_in = go class
    where
      go : (class : Bool) → Enters 0 (size_of_all constructor_size) (constructors_in class s m)
      go true = enters_list_in (enters-constructor_in s) _ m
      go false = enters-pure [] refl

  enters-lists_in : (h : Head) → Enters 0 declarations_size (lists_in class h s m)
  unfolding lists_in
  enters-lists_in h =
      enters_bind enters-constructors_in λ constructors.
      enters_bind (enters_list_in (enters-function_in s) (function_field class) m) λ functions.
      enters_bind (enters_list_in (enters-property_in s) (property_field class) m) λ properties.
      enters_bind (enters_list_in (enters-alias_in s) (alias_field class) m) λ aliases. enters-pure _ (omega arith)

  pub enters-after_table : Enters 0 declarations_size (after_table class s m)
  unfolding after_table
  enters-after_table = enters_after quiet-head_in enters-lists_in

pub enters_body_in : (class : Bool) (names : Names) (m : Message) → Enters 0 declarations_size (body_in class names m)
unfolding body_in
enters_body_in class names m = enters_after (quiet_type_table_in _ m) λ table. enters-after_table (scope names table) class m

module _ {A : Type 0} {size : A → ℕ} {m : Read A} (h : Enters 0 size m) where
  pub entered : (l : ℕ) → Gives (λ r. size r.0 + r.1 ≡ l) (m l)
  entered l = gives_weaken _ _ (m l) (h.at l) λ r p. omega arith

-- The types that a class or package enters are those in its declarations.
pub body_enters : (class : Bool) (names : Names) (m : Message) (l : ℕ) → Gives (λ r. declarations_size r.0 + r.1 ≡ l) (body_in class names m l)
body_enters class names m l = entered (enters_body_in class names m) l

-- Each type is a row of kind 6, and no other row is.
pub count-append : (k : ℕ) (xs ys : List Row) → count_kind k (xs ++ ys) ≡ count_kind k xs + count_kind k ys
count-append k [] ys = omega arith
count-append k (r ∷ xs) ys = omega (arith, count-append k xs ys)

pub count_all : {A : Type 0} (k : ℕ) (rows : A → List Row) (size : A → ℕ) → ((a : A) → count_kind k (rows a) ≡ size a)
    → (xs : List A) → count_kind k (concat (map rows xs)) ≡ size_of_all size xs
count_all k rows size h [] = refl
count_all k rows size h (x ∷ xs) = omega (arith, count-append k (rows x) (concat (map rows xs)), h x, count_all k rows size h xs)

pub types-count : (role : ℕ) (ts : Types) → count_kind 6 (types_rows role ts) ≡ size_of ts
unfolding types_rows
types-count role no_types = refl
types-count role (and_type projection nullable name arguments after) =
    omega (
      arith,
      count-append 6 (types_rows argument_role arguments) (types_rows role after),
      types-count argument_role arguments,
      types-count role after,
    )

pub type-count : (role : ℕ) (t : Option Ty) → count_kind 6 (type_rows role t) ≡ size_if_some type_size t
type-count role none = refl
type-count role (some t) = omega (arith, types-count role (single t))

pub parameter_count : (p : Parameter) → count_kind 6 (parameter_rows p) ≡ parameter_size p
unfolding parameter_rows
parameter_count p = simp (count-append, type-count) (omega arith)

pub parameters-count : (ps : List Parameter) → count_kind 6 (parameters_rows ps) ≡ size_of_all parameter_size ps
parameters-count = count_all 6 parameter_rows parameter_size parameter_count

pub constructor_count_lem : (c : Constructor) → count_kind 6 (constructor_rows c) ≡ constructor_size c
unfolding constructor_rows
constructor_count_lem c = omega (arith, parameters-count c.parameters)

pub function_count_lem : (f : Function) → count_kind 6 (function_rows f) ≡ function_size f
unfolding function_rows
function_count_lem f = simp (count-append, type-count, parameters-count) (omega arith)

pub property_count_lem : (p : Property) → count_kind 6 (property_rows p) ≡ property_size p
unfolding property_rows
property_count_lem p = simp (count-append, type-count) (omega arith)

pub alias_count_lem : (a : Alias) → count_kind 6 (alias_rows a) ≡ alias_size a
unfolding alias_rows
alias_count_lem a = simp (count-append, type-count) (omega arith)
