-- Bodies that are the same but for their type tables, which are alike, are read alike.
-- Assumes nothing.
use mathlib.Core.Path.{◌≡◌, refl, ap, sym}
use mathlib.Core.Bool.{Bool, true, false}
use mathlib.Core.List.{List, []}
use mathlib.Core.Option.{Option, none, some}
use Prim.Native.Nat.{ℕ}
use lib.Dec.{eqb}
use lib.ListN.{length}
use Rattle.foundation.specs.Choices.{if_some, or_else}
use Rattle.foundation.specs.Results.{Res, ok, refused, ◌>>=◌}
use Rattle.foundation.specs.Texts.{Text}
use Rattle.fields.specs.Fields.{Class-type_table, Class-flags, Class-fq_name, TypeTable-type, TypeTable-first_nullable}
use Rattle.wire.specs.Wire.{Value, Message}
use Rattle.wire.specs.Messages.{first_of, value, values, bodies_of, cut_all, index, message, messages}
use Rattle.names.specs.Names.{Names}
use Rattle.schema.specs.Reading as Reading
use Rattle.schema.specs.Reading.{Read, pure, lift, TypeTable, Scope, scope, name_in, class_name_in}
use Rattle.schema.specs.Types.{declared_type, no_table, type_table_in}
use Rattle.schema.specs.Members.{signature_of, signature_in, field_of, forgiven, field_in, parameter_in, parameters_in, constructor_in, function_in, property_in, alias_in, Head, head, head_in, constructors_in, function_field, property_field, alias_field, type_table_field, lists_in, after_table, body_in}
use Rattle.schema.specs.told.Alike.{Alike, AlikeOption, SameTypes, SameTable}
use Rattle.joined_types.proofs.SameReads.{SameRead, same-path, same-read, same-bind, same-if_some, same-named, same-each, same-list_in, same-of_signature}
use Rattle.joined_types.proofs.TypeReadings.{same-index, same-varint_of, same-name_in, same-class_name_in, SameScope, same-declared_type}

-- Two bodies with the same values in each field but the type table's, and with type tables alike.
pub record SameBody (k : ℕ) (m m' : Message) : Type 0 where
  pub others : (i : ℕ) → eqb Class-type_table i ≡ false → values i m ≡ values i m'
  pub table : Alike (AlikeOption (SameTable k)) (message Class-type_table m) (message Class-type_table m')

-- A declaration's message is the same in both: it has no type table in it.
module _ (k : ℕ) (s s' : Scope) (e : SameScope k s s') where
  name-same : (n : ℕ) (m : Message) → SameRead (name_in s n m) (name_in s' n m)
  name-same n m = same-name_in s s' e.names n m

  declared-same : (inline indexed : ℕ) (m : Message) → SameRead (declared_type s inline indexed m) (declared_type s' inline indexed m)
  declared-same = same-declared_type k s s' e

  signature-same : (fallback : Option Text) (m : Message) → SameRead (signature_of s fallback m) (signature_of s' fallback m)
  unfolding signature_of
  signature-same fallback m =
      same-bind (name-same _ m) λ own.
      same-if_some (or_else own fallback) (same-read (pure none)) λ name.
      same-bind (name-same _ m) λ descriptor. same-read (pure _)

  signature-in-same : (fallback : Option Text) (n : ℕ) (m : Message) → SameRead (signature_in s fallback n m) (signature_in s' fallback n m)
  unfolding signature_in
  signature-in-same fallback n m =
      same-bind (same-read (lift (message n m))) λ t. same-if_some t (same-read (pure none)) (signature-same fallback)

  field-same : (m : Message) → SameRead (field_of s m) (field_of s' m)
  unfolding field_of
  field-same m = same-bind (name-same _ m) λ name. same-bind (name-same _ m) λ descriptor. same-read (pure _)

  field-in-same : (m : Message) → SameRead (field_in s m) (field_in s' m)
  unfolding field_in
  field-in-same m = same-if_some (forgiven (message _ m)) (same-read (pure none)) field-same

  parameter-same : (m : Message) → SameRead (parameter_in s m) (parameter_in s' m)
  unfolding parameter_in
  parameter-same m =
      same-bind (name-same _ m) λ name.
      same-bind (declared-same _ _ m) λ type. same-bind (declared-same _ _ m) λ vararg. same-read (pure _)

  parameters-same : (n : ℕ) (m : Message) → SameRead (parameters_in s n m) (parameters_in s' n m)
  unfolding parameters_in
  parameters-same n m = same-bind (same-read (lift (messages n m))) (same-each parameter-same)

  constructor-same : (m : Message) → SameRead (constructor_in s m) (constructor_in s' m)
  unfolding constructor_in
  constructor-same m =
      same-bind (parameters-same _ m) λ parameters.
      same-bind (signature-in-same _ _ m) λ signature. same-read (pure _)

  function-same : (m : Message) → SameRead (function_in s m) (function_in s' m)
  unfolding function_in
  function-same m =
      same-bind (name-same _ m) λ n. same-named n λ name.
      same-bind (parameters-same _ m) λ parameters.
      same-bind (declared-same _ _ m) λ receiver.
      same-bind (signature-in-same _ _ m) λ signature.
      same-bind (declared-same _ _ m) λ returned. same-read (pure _)

  property-same : (m : Message) → SameRead (property_in s m) (property_in s' m)
  unfolding property_in
  property-same m =
      same-bind (name-same _ m) λ n. same-named n λ name.
      same-bind (same-read (lift (message _ m))) λ signature.
      same-bind (same-of_signature field-in-same signature) λ field.
      same-bind (declared-same _ _ m) λ receiver.
      same-bind (same-of_signature (signature-in-same none _) signature) λ getter.
      same-bind (same-of_signature (signature-in-same none _) signature) λ setter.
      same-bind (declared-same _ _ m) λ type. same-read (pure _)

  alias-same : (m : Message) → SameRead (alias_in s m) (alias_in s' m)
  unfolding alias_in
  alias-same m =
      same-bind (name-same _ m) λ n. same-named n λ name.
      same-bind (declared-same _ _ m) λ underlying. same-bind (declared-same _ _ m) λ expanded. same-read (pure _)

  -- the body: what is read of its fields, none of which is the type table's
  module _ (m m' : Message) (b : SameBody k m m') where
    value-same : (n : ℕ) → eqb Class-type_table n ≡ false → value n m ≡ value n m'
    value-same n h = ap first_of (b.others n h)

    messages-same : (n : ℕ) → eqb Class-type_table n ≡ false → messages n m ≡ messages n m'
    unfolding messages
    messages-same n h = ap (λ (vs : List Value). cut_all (bodies_of vs)) (b.others n h)

    head-same : (class : Bool) → SameRead (head_in class s m) (head_in class s' m')
    head-same true =
        same-bind (same-class_name_in s s' e.names Class-fq_name m m' (same-index Class-fq_name m m' (value-same Class-fq_name refl))) λ name.
        same-path (ap (λ (o : Option ℕ). pure (head name (if_some o 6 λ flags. flags))) (same-varint_of Class-flags m m' (value-same Class-flags refl)))
    head-same false = same-read (pure _)

    constructors-same : (class : Bool) → SameRead (constructors_in class s m) (constructors_in class s' m')
    constructors-same true = same-list_in constructor-same _ m m' (messages-same _ refl)
    constructors-same false = same-read (pure [])

    lists-same : (class : Bool) (h : Head) → SameRead (lists_in class h s m) (lists_in class h s' m')
    unfolding lists_in
    lists-same class h =
        same-bind (constructors-same class) λ constructors.
        same-bind (same-list_in function-same (function_field class) m m' (messages-same _ (function-other class))) λ functions.
        same-bind (same-list_in property-same (property_field class) m m' (messages-same _ (property-other class))) λ properties.
        same-bind (same-list_in alias-same (alias_field class) m m' (messages-same _ (alias-other class))) λ aliases. same-read (pure _)
      where
        function-other : (class : Bool) → eqb Class-type_table (function_field class) ≡ false
        function-other true = refl
        function-other false = refl

        property-other : (class : Bool) → eqb Class-type_table (property_field class) ≡ false
        property-other true = refl
        property-other false = refl

        alias-other : (class : Bool) → eqb Class-type_table (alias_field class) ≡ false
        alias-other true = refl
        alias-other false = refl

    after-table-same : (class : Bool) → SameRead (after_table class s m) (after_table class s' m')
    unfolding after_table
    after-table-same class = same-bind (head-same class) λ h. lists-same class h

-- the table of a message that may not be there
abbrev entries_of : Option Message → Read TypeTable
entries_of t =
    if_some t (pure no_table) λ table.
    Reading.◌>>=◌ (lift (messages TypeTable-type table)) λ types. pure (record { types = types; first_nullable = index TypeTable-first_nullable table })

-- tables alike, then what reads with them
module _ {B : Type 0} (k : ℕ) (names : Names) (f f' : TypeTable → Read B)
    (h : (t t' : TypeTable) → SameScope k (scope names t) (scope names t') → SameRead (f t) (f' t')) where
  after-types : (table table' : Message) (r r' : Res (List Message)) → index TypeTable-first_nullable table ≡ index TypeTable-first_nullable table'
      → Alike (λ ms ms'. SameTypes (length ms) k ms ms') r r'
      → SameRead
      (Reading.◌>>=◌ (Reading.◌>>=◌ (lift r) λ types. pure (record { types = types; first_nullable = index TypeTable-first_nullable table })) f)
      (Reading.◌>>=◌ (Reading.◌>>=◌ (lift r') λ types. pure (record { types = types; first_nullable = index TypeTable-first_nullable table' })) f')
  after-types table table' (ok ms) (ok ms') i a = record { at = (h _ _ (record { names = refl; first = i; types = a })).at }
  after-types table table' (ok ms) (refused c p) i a = absurd a
  after-types table table' (refused c p) r' i a = rw a (same-read λ l. refused c p)

  after-option : (t t' : Option Message) → AlikeOption (SameTable k) t t' → SameRead (Reading.◌>>=◌ (entries_of t) f) (Reading.◌>>=◌ (entries_of t') f')
  after-option none t' a = rw a (record { at = (h no_table no_table (record { names = refl; first = refl; types = SameTypes.no_entries })).at })
  after-option (some table) none a = absurd a
  after-option (some table) (some table') a =
      after-types table table' (messages TypeTable-type table) (messages TypeTable-type table')
      (same-index TypeTable-first_nullable table table' a.first) a.types

  after-message : (r r' : Res (Option Message)) → Alike (AlikeOption (SameTable k)) r r'
      → SameRead (Reading.◌>>=◌ (Reading.◌>>=◌ (lift r) entries_of) f) (Reading.◌>>=◌ (Reading.◌>>=◌ (lift r') entries_of) f')
  after-message (ok t) (ok t') a = record { at = (after-option t t' a).at }
  after-message (ok t) (refused c p) a = absurd a
  after-message (refused c p) r' a = rw a (same-read λ l. refused c p)

pub body-alike : (k : ℕ) (class : Bool) (names : Names) (m m' : Message) → SameBody k m m' → SameRead (body_in class names m) (body_in class names m')
unfolding body_in type_table_in
body-alike k class names m m' b =
    after-message k names (λ t. after_table class (scope names t) m) (λ t. after_table class (scope names t) m')
    (λ t t' e. after-table-same k (scope names t) (scope names t') e m m' b class) (message (type_table_field class) m) (message (type_table_field class) m')
    (table class)
  where
    table : (class : Bool) → Alike (AlikeOption (SameTable k)) (message (type_table_field class) m) (message (type_table_field class) m')
    table true = b.table
    table false = b.table

-- the same after cutting
pub bodies-alike : (k : ℕ) (class : Bool) (names : Names) (r r' : Res Message) → Alike (SameBody k) r r' → (left : ℕ)
    → (r >>= λ m. body_in class names m left) ≡ (r' >>= λ m. body_in class names m left)
bodies-alike k class names (ok m) (ok m') a left = (body-alike k class names m m' a).at left
bodies-alike k class names (ok m) (refused c p) a left = absurd a
bodies-alike k class names (refused c p) r' a left = sym (ap (λ (r : Res Message). r >>= λ m. body_in class names m left) a)
