-- Parameters, constructors, functions, properties, type aliases, and the bodies of classes and packages, each read in document 01's order.
-- Assumes nothing.
use Rattle.std.specs.Prelude.{Bool, true, false, not, ◌||◌, List, [], ℕ, ◌/◌, ◌%◌, ◌^◌, eqb}
use Rattle.std.proofs.Math.Option.{Option, none, some}
use Rattle.foundation.specs.Choices.{if_some, is_some, map_option, or_else, both_of}
use Rattle.foundation.specs.Results.{Res, ok, refused}
use Rattle.foundation.specs.Texts.{Text, ascii}
use Rattle.fields.specs.Fields.{Class-flags, Class-fq_name, Class-constructor, Class-function, Class-property, Class-type_alias, Class-type_table, Package-function, Package-property, Package-type_alias, Package-type_table, Constructor-flags, Constructor-value_parameter, Constructor-constructor_signature, Function-name, Function-return_type, Function-receiver_type, Function-value_parameter, Function-return_type_id, Function-receiver_type_id, Function-flags, Function-method_signature, Property-name, Property-return_type, Property-receiver_type, Property-getter_flags, Property-setter_flags, Property-return_type_id, Property-receiver_type_id, Property-flags, Property-property_signature, TypeAlias-flags, TypeAlias-name, TypeAlias-underlying_type, TypeAlias-underlying_type_id, TypeAlias-expanded_type, TypeAlias-expanded_type_id, ValueParameter-flags, ValueParameter-name, ValueParameter-type, ValueParameter-vararg_element_type, ValueParameter-type_id, ValueParameter-vararg_element_type_id, JvmMethodSignature-name, JvmMethodSignature-desc, JvmFieldSignature-name, JvmFieldSignature-desc, JvmPropertySignature-field, JvmPropertySignature-getter, JvmPropertySignature-setter, omitted_flags, omitted_small_flags}
use Rattle.wire.specs.Wire.{Message}
use Rattle.wire.specs.Messages.{value, varint_of, message, messages}
use Rattle.names.specs.Names.{Names}
use Rattle.declaration_rows.specs.Declarations.{Ty, Signature, signed, Parameter, Constructor, Function, Property, Alias, Declarations}
use Rattle.schema.specs.Reading.{Read, pure, ◌>>=◌, lift, kept, each, Scope, scope, name_in, class_name_in}
use Rattle.schema.specs.Types.{declared_type, type_table_in}

-- bit n of some flags, counted from 0
abbrev pub bit_of : ℕ → ℕ → Bool
bit_of n flags = eqb (flags / 2 ^ n % 2) 1

-- Flags, or what omitted ones are.
abbrev pub flags_in : ℕ → Message → ℕ
flags_in n m = if_some (varint_of n m) omitted_flags λ flags. flags

-- The same of parameters and accessors.
abbrev pub small_flags_in : ℕ → Message → ℕ
small_flags_in n m = if_some (varint_of n m) omitted_small_flags λ flags. flags

-- What `read` reads once there is a name; without one it is skipped before anything inside it is read (metadata.proto requires the
-- name, and Kotlin's reader refuses the message).
abbrev pub named : {A : Type 0} → Option Text → (Text → Read A) → Read (Option A)
named none read = pure none
named (some name) read = read name >>= λ a. pure (some a)

-- A signature of a name index that may fall back, and a descriptor index. Departure: without a usable descriptor there is no signature,
-- where jvm_metadata.proto has it derived.
unfoldable pub signature_of : Scope → Option Text → Message → Read (Option Signature)
signature_of s fallback m =
    name_in s JvmMethodSignature-name m >>= λ own.
    if_some (or_else own fallback) (pure none) λ name.
    name_in s JvmMethodSignature-desc m >>= λ descriptor. pure (map_option (signed name) descriptor)

unfoldable pub signature_in : Scope → Option Text → ℕ → Message → Read (Option Signature)
signature_in s fallback n m = lift (message n m) >>= λ t. if_some t (pure none) (signature_of s fallback)

-- A backing field has a name and a descriptor of its own or is dropped (departure: its name would be the property's).
unfoldable pub field_of : Scope → Message → Read (Option Signature)
field_of s m =
    name_in s JvmFieldSignature-name m >>= λ name.
    name_in s JvmFieldSignature-desc m >>= λ descriptor. pure (both_of signed name descriptor)

-- Departure: a broken field message means no backing field.
abbrev pub forgiven : {A : Type 0} → Res (Option A) → Option A
forgiven (ok a) = a
forgiven (refused c p) = none

unfoldable pub field_in : Scope → Message → Read (Option Signature)
field_in s m = if_some (forgiven (message JvmPropertySignature-field m)) (pure none) (field_of s)

-- what `read` reads of a property's signature message, if there is one
abbrev pub of_signature : (Message → Read (Option Signature)) → Option Message → Read (Option Signature)
of_signature read none = pure none
of_signature read (some m) = read m

-- A parameter is never skipped: one without a name is read like any other, and its name is absent.
unfoldable pub parameter_in : Scope → Message → Read Parameter
parameter_in s m =
    name_in s ValueParameter-name m >>= λ name.
    declared_type s ValueParameter-type ValueParameter-type_id m >>= λ type.
    declared_type s ValueParameter-vararg_element_type ValueParameter-vararg_element_type_id m >>= λ vararg.
    pure (record {
      name = name;
      declares_default = bit_of 1 (small_flags_in ValueParameter-flags m);
      type = type;
      vararg_element = vararg;
    })

-- the parameters in field n: one for each of its messages, all of them cut before the first is read
unfoldable pub parameters_in : Scope → ℕ → Message → Read (List Parameter)
parameters_in s n m = lift (messages n m) >>= each (parameter_in s)

-- the list in field n, all of it cut before the first is read
unfoldable pub list_in : {A : Type 0} → (Message → Read (Option A)) → ℕ → Message → Read (List A)
list_in read n m = lift (messages n m) >>= kept read

-- never skipped
unfoldable pub constructor_in : Scope → Message → Read (Option Constructor)
constructor_in s m =
    parameters_in s Constructor-value_parameter m >>= λ parameters.
    signature_in s (some (ascii "<init>")) Constructor-constructor_signature m >>= λ signature.
    pure (some (record { flags = flags_in Constructor-flags m; parameters = parameters; signature = signature }))

-- A receiver is there if its type is, or if its index field occurs in any wire type.
abbrev pub receiver_in : Option Ty → ℕ → Message → Bool
receiver_in type n m = is_some type || is_some (value n m)

unfoldable pub function_in : Scope → Message → Read (Option Function)
function_in s m =
    name_in s Function-name m >>= λ n. named n λ name.
    parameters_in s Function-value_parameter m >>= λ parameters.
    declared_type s Function-receiver_type Function-receiver_type_id m >>= λ receiver.
    signature_in s (some name) Function-method_signature m >>= λ signature.
    declared_type s Function-return_type Function-return_type_id m >>= λ returned.
    pure (record {
      name = name;
      flags = flags_in Function-flags m;
      parameters = parameters;
      has_receiver = receiver_in receiver Function-receiver_type_id m;
      receiver = receiver;
      signature = signature;
      returned = returned;
    })

-- An accessor is default unless bit 6 of its flags says otherwise.
abbrev pub accessor_is_default : ℕ → Message → Bool
accessor_is_default n m = not (bit_of 6 (small_flags_in n m))

unfoldable pub property_in : Scope → Message → Read (Option Property)
property_in s m =
    name_in s Property-name m >>= λ n. named n λ name.
    lift (message Property-property_signature m) >>= λ signature.
    of_signature (field_in s) signature >>= λ field.
    declared_type s Property-receiver_type Property-receiver_type_id m >>= λ receiver.
    of_signature (signature_in s none JvmPropertySignature-getter) signature >>= λ getter.
    of_signature (signature_in s none JvmPropertySignature-setter) signature >>= λ setter.
    declared_type s Property-return_type Property-return_type_id m >>= λ type.
    pure (record {
      name = name;
      flags = flags_in Property-flags m;
      field = field;
      getter = getter;
      setter = setter;
      getter_is_default = accessor_is_default Property-getter_flags m;
      setter_is_default = accessor_is_default Property-setter_flags m;
      has_receiver = receiver_in receiver Property-receiver_type_id m;
      receiver = receiver;
      type = type;
    })

-- Omitted flags are 6 by metadata.proto too.
unfoldable pub alias_in : Scope → Message → Read (Option Alias)
alias_in s m =
    name_in s TypeAlias-name m >>= λ n. named n λ name.
    declared_type s TypeAlias-underlying_type TypeAlias-underlying_type_id m >>= λ underlying.
    declared_type s TypeAlias-expanded_type TypeAlias-expanded_type_id m >>= λ expanded.
    pure (record { name = name; flags = flags_in TypeAlias-flags m; underlying = underlying; expanded = expanded })

-- A class name and flags.
pub record Head : Type 0 where
  pub name : Option Text
  pub flags : ℕ

abbrev pub head : Option Text → ℕ → Head
head name flags = record { name = name; flags = flags }

-- A body is a class's (true) or a package's. A package has no class name, flags as if omitted and no constructors.
abbrev pub head_in : Bool → Scope → Message → Read Head
head_in true s m = class_name_in s Class-fq_name m >>= λ name. pure (head name (flags_in Class-flags m))
head_in false s m = pure (head none omitted_flags)

abbrev pub constructors_in : Bool → Scope → Message → Read (List Constructor)
constructors_in true s m = list_in (constructor_in s) Class-constructor m
constructors_in false s m = pure []

-- where the functions, the properties, the type aliases and the type table stand
abbrev pub function_field : Bool → ℕ
function_field true = Class-function
function_field false = Package-function

abbrev pub property_field : Bool → ℕ
property_field true = Class-property
property_field false = Package-property

abbrev pub alias_field : Bool → ℕ
alias_field true = Class-type_alias
alias_field false = Package-type_alias

abbrev pub type_table_field : Bool → ℕ
type_table_field true = Class-type_table
type_table_field false = Package-type_table

-- constructors, functions, properties, type aliases
unfoldable pub lists_in : Bool → Head → Scope → Message → Read Declarations
lists_in class h s m =
    constructors_in class s m >>= λ constructors.
    list_in (function_in s) (function_field class) m >>= λ functions.
    list_in (property_in s) (property_field class) m >>= λ properties.
    list_in (alias_in s) (alias_field class) m >>= λ aliases.
    pure (record {
      name = h.name;
      flags = h.flags;
      constructors = constructors;
      functions = functions;
      properties = properties;
      aliases = aliases;
    })

-- what follows the type table
unfoldable pub after_table : Bool → Scope → Message → Read Declarations
after_table class s m = head_in class s m >>= λ h. lists_in class h s m

-- a whole body: its type table is read first
unfoldable pub body_in : Bool → Names → Message → Read Declarations
body_in class names m = type_table_in (type_table_field class) m >>= λ table. after_table class (scope names table) m
