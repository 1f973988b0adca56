-- Every field number in use, on one class: its bytes by the numbers of metadata.proto and jvm_metadata.proto, and its declarations.
-- Assumes nothing.
use mathlib.Core.Path.{◌≡◌, refl}
use mathlib.Core.Bool.{Bool, true, false}
use mathlib.Core.List.{List, [], ◌∷◌}
use mathlib.Core.Option.{Option, none, some}
use Prim.Native.Nat.{ℕ}
use lib.ListN.{get_elem?}
use Rattle.foundation.specs.Results as Results
use Rattle.foundation.specs.Results.{ok, ◌from◌}
use Rattle.foundation.specs.Texts.{Text, ascii}
use Rattle.wire.specs.Wire.{groups_from, read_varint, read_bytes, read_delimited, read_fixed, read_value, read_field, repeated, cut}
use Rattle.wire.specs.Messages.{values, varint_of, index, flag, bytes_of, message, bodies_of, cut_all, messages}
use Rattle.names.specs.Names.{Names, record_at, string, without_last, qualified_name}
use Rattle.declaration_rows.specs.Declarations.{invariant, no_types, and_type, Ty, Signature, Parameter, Declarations}
use Rattle.schema.specs.Reading.{kept, name_in, class_name_in, allowance, each}
use Rattle.schema.specs.Types.{resolve_at, type_in, projection_in, argument_in, parse_at, type_at, declared_type, type_table_in}
use Rattle.schema.specs.Members.{
  signature_of,
  signature_in,
  field_of,
  field_in,
  parameter_in,
  parameters_in,
  list_in,
  constructor_in,
  function_in,
  property_in,
  alias_in,
  lists_in,
  after_table,
  body_in,
}

-- no records, and five strings
pub names : Names
names = record { records = []; d2 = λ i. ok (get_elem? (ascii "C" ∷ ascii "n" ∷ ascii "T" ∷ ascii "d" ∷ ascii "U" ∷ []) i) }

-- field 5 is there too, an alias in a package alone
pub class : List ℕ
class =
    8 ∷ 7 ∷ 24 ∷ 0 ∷ 66 ∷ 23 ∷ 8 ∷ 5 ∷ 18 ∷ 12 ∷ 8 ∷ 2 ∷ 16 ∷ 1 ∷ 26 ∷ 2 ∷ 48 ∷ 2 ∷ 34 ∷ 2 ∷ 48 ∷ 4 ∷ 162 ∷ 6 ∷ 4 ∷ 8 ∷ 1 ∷ 16 ∷ 3 ∷
    74 ∷ 30 ∷ 16 ∷ 1 ∷ 26 ∷ 4 ∷ 24 ∷ 1 ∷ 48 ∷ 2 ∷ 42 ∷ 2 ∷ 48 ∷ 4 ∷ 50 ∷ 6 ∷ 16 ∷ 1 ∷ 40 ∷ 0 ∷ 48 ∷ 0 ∷ 72 ∷ 134 ∷ 64 ∷ 162 ∷ 6 ∷ 4 ∷
    8 ∷ 1 ∷ 16 ∷ 3 ∷ 74 ∷ 6 ∷ 16 ∷ 1 ∷ 56 ∷ 0 ∷ 64 ∷ 0 ∷ 82 ∷ 45 ∷ 16 ∷ 1 ∷ 26 ∷ 2 ∷ 48 ∷ 2 ∷ 42 ∷ 10 ∷ 18 ∷ 6 ∷ 8 ∷ 2 ∷ 18 ∷ 2 ∷ 48 ∷
    4 ∷ 48 ∷ 2 ∷ 56 ∷ 64 ∷ 64 ∷ 0 ∷ 88 ∷ 7 ∷ 162 ∷ 6 ∷ 18 ∷ 10 ∷ 4 ∷ 8 ∷ 1 ∷ 16 ∷ 3 ∷ 26 ∷ 4 ∷ 8 ∷ 1 ∷ 16 ∷ 3 ∷ 34 ∷ 4 ∷ 8 ∷ 1 ∷ 16 ∷
    3 ∷ 82 ∷ 6 ∷ 16 ∷ 1 ∷ 72 ∷ 0 ∷ 80 ∷ 0 ∷ 90 ∷ 12 ∷ 8 ∷ 7 ∷ 16 ∷ 1 ∷ 34 ∷ 2 ∷ 48 ∷ 2 ∷ 50 ∷ 2 ∷ 48 ∷ 4 ∷ 90 ∷ 6 ∷ 16 ∷ 1 ∷ 40 ∷ 0 ∷ 56 ∷ 1 ∷ 42 ∷ 2 ∷ 16 ∷ 1 ∷
    242 ∷ 1 ∷ 14 ∷ 10 ∷ 6 ∷ 18 ∷ 2 ∷ 24 ∷ 1 ∷ 48 ∷ 2 ∷ 10 ∷ 2 ∷ 48 ∷ 4 ∷ 16 ∷ 1 ∷ []

abbrev plain : Text → Ty
plain n = record { nullable = false; name = some n; arguments = no_types }

-- entry 0 of the table, which holds entry 1, nullable from 1 on
abbrev entry : Ty
entry = record { nullable = false; name = some (ascii "T"); arguments = and_type invariant true (some (ascii "U")) no_types no_types }

abbrev signature : Option Signature
signature = some (record { name = ascii "n"; descriptor = ascii "d" })

abbrev parameter : Bool → Ty → Ty → Parameter
parameter default type vararg = record { name = some (ascii "n"); declares_default = default; type = some type; vararg_element = some vararg }

pub expected : Declarations
expected = record {
  name = some (ascii "C");
  flags = 7;
  constructors =
      record { flags = 5; parameters = parameter true (plain (ascii "T")) (plain (ascii "U")) ∷ []; signature = signature } ∷ [];
  functions =
      record {
        name = ascii "n";
        flags = 8198;
        parameters = parameter false entry entry ∷ [];
        has_receiver = true;
        receiver = some (plain (ascii "U"));
        signature = signature;
        returned = some (record { nullable = true; name = some (ascii "T"); arguments = no_types });
      }
      ∷ record {
        name = ascii "n";
        flags = 6;
        parameters = [];
        has_receiver = true;
        receiver = some entry;
        signature = none;
        returned = some entry;
      }
      ∷ [];
  properties =
      record {
        name = ascii "n";
        flags = 7;
        field = signature;
        getter = signature;
        setter = signature;
        getter_is_default = false;
        setter_is_default = true;
        has_receiver = true;
        receiver = some (record {
          nullable = false;
          name = some (ascii "T");
          arguments = and_type invariant false (some (ascii "U")) no_types no_types;
        });
        type = some (plain (ascii "T"));
      }
      ∷ record {
        name = ascii "n";
        flags = 6;
        field = none;
        getter = none;
        setter = none;
        getter_is_default = true;
        setter_is_default = true;
        has_receiver = true;
        receiver = some entry;
        type = some entry;
      }
      ∷ [];
  aliases =
      record { name = ascii "n"; flags = 7; underlying = some (plain (ascii "T")); expanded = some (plain (ascii "U")) }
      ∷ record {
        name = ascii "n";
        flags = 6;
        underlying = some entry;
        expanded = some (record { nullable = true; name = some (ascii "U"); arguments = no_types });
      }
      ∷ [];
}

pub field_numbers : Results.◌>>=◌ (cut (◌from◌ 0 class)) (λ m. body_in true names m allowance) ≡ ok (expected, 2024)
unfolding
    names class expected groups_from read_varint read_bytes read_delimited read_fixed read_value read_field repeated cut values varint_of index flag
    bytes_of message bodies_of cut_all messages record_at string without_last qualified_name kept each name_in class_name_in resolve_at type_in projection_in
    argument_in parse_at type_at declared_type type_table_in signature_of signature_in field_of field_in parameter_in parameters_in list_in constructor_in function_in property_in
    alias_in lists_in after_table body_in
field_numbers = refl

-- a package: a function, a property, an alias, a type table
pub file : List ℕ
file = 0x1a ∷ 4 ∷ 16 ∷ 1 ∷ 56 ∷ 0 ∷ 0x22 ∷ 4 ∷ 16 ∷ 1 ∷ 72 ∷ 1 ∷ 0x2a ∷ 2 ∷ 16 ∷ 1 ∷ 0xf2 ∷ 1 ∷ 10 ∷ 10 ∷ 2 ∷ 48 ∷ 2 ∷ 10 ∷ 2 ∷ 48 ∷ 4 ∷ 16 ∷ 1 ∷ []

pub expected_of_package : Declarations
expected_of_package = record {
  name = none;
  flags = 6;
  constructors = [];
  functions =
      record {
        name = ascii "n";
        flags = 6;
        parameters = [];
        has_receiver = false;
        receiver = none;
        signature = none;
        returned = some (plain (ascii "T"));
      }
      ∷ [];
  properties =
      record {
        name = ascii "n";
        flags = 6;
        field = none;
        getter = none;
        setter = none;
        getter_is_default = true;
        setter_is_default = true;
        has_receiver = false;
        receiver = none;
        type = some (record { nullable = true; name = some (ascii "U"); arguments = no_types });
      }
      ∷ [];
  aliases = record { name = ascii "n"; flags = 6; underlying = none; expanded = none } ∷ [];
}

pub package_field_numbers : Results.◌>>=◌ (cut (◌from◌ 0 file)) (λ m. body_in false names m allowance) ≡ ok (expected_of_package, 2046)
unfolding
    names file expected_of_package groups_from read_varint read_bytes read_delimited read_fixed read_value read_field repeated cut values varint_of
    index flag bytes_of message bodies_of cut_all messages record_at string without_last qualified_name kept each name_in class_name_in resolve_at type_in
    projection_in argument_in parse_at type_at declared_type type_table_in signature_of signature_in field_of field_in parameter_in parameters_in list_in constructor_in function_in
    property_in alias_in lists_in after_table body_in
package_field_numbers = refl
