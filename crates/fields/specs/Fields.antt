-- Field numbers, under the names that metadata.proto and, for the name table and the signatures (100 and the Jvm messages),
-- jvm_metadata.proto give them. The code has them in src/lib.rt: Class-flags is CLASS_FLAGS there.
-- Assumes nothing.
use Rattle.std.specs.Prelude.{ℕ}

abbrev pub StringTableTypes-record : ℕ
StringTableTypes-record = 1

abbrev pub StringTableTypes-local_name : ℕ
StringTableTypes-local_name = 5

abbrev pub Record-range : ℕ
Record-range = 1

abbrev pub Record-predefined_index : ℕ
Record-predefined_index = 2

abbrev pub Record-operation : ℕ
Record-operation = 3

abbrev pub Record-substring_index : ℕ
Record-substring_index = 4

abbrev pub Record-replace_char : ℕ
Record-replace_char = 5

abbrev pub Record-string : ℕ
Record-string = 6

abbrev pub Type-argument : ℕ
Type-argument = 2

abbrev pub Type-nullable : ℕ
Type-nullable = 3

abbrev pub Type-class_name : ℕ
Type-class_name = 6

abbrev pub Type-Argument-projection : ℕ
Type-Argument-projection = 1

abbrev pub Type-Argument-type : ℕ
Type-Argument-type = 2

abbrev pub Type-Argument-type_id : ℕ
Type-Argument-type_id = 3

abbrev pub TypeTable-type : ℕ
TypeTable-type = 1

abbrev pub TypeTable-first_nullable : ℕ
TypeTable-first_nullable = 2

abbrev pub Class-flags : ℕ
Class-flags = 1

abbrev pub Class-fq_name : ℕ
Class-fq_name = 3

abbrev pub Class-constructor : ℕ
Class-constructor = 8

abbrev pub Class-function : ℕ
Class-function = 9

abbrev pub Class-property : ℕ
Class-property = 10

abbrev pub Class-type_alias : ℕ
Class-type_alias = 11

abbrev pub Class-type_table : ℕ
Class-type_table = 30

abbrev pub Package-function : ℕ
Package-function = 3

abbrev pub Package-property : ℕ
Package-property = 4

abbrev pub Package-type_alias : ℕ
Package-type_alias = 5

abbrev pub Package-type_table : ℕ
Package-type_table = 30

abbrev pub Constructor-flags : ℕ
Constructor-flags = 1

abbrev pub Constructor-value_parameter : ℕ
Constructor-value_parameter = 2

abbrev pub Constructor-constructor_signature : ℕ
Constructor-constructor_signature = 100

abbrev pub Function-name : ℕ
Function-name = 2

abbrev pub Function-return_type : ℕ
Function-return_type = 3

abbrev pub Function-receiver_type : ℕ
Function-receiver_type = 5

abbrev pub Function-value_parameter : ℕ
Function-value_parameter = 6

abbrev pub Function-return_type_id : ℕ
Function-return_type_id = 7

abbrev pub Function-receiver_type_id : ℕ
Function-receiver_type_id = 8

abbrev pub Function-flags : ℕ
Function-flags = 9

abbrev pub Function-method_signature : ℕ
Function-method_signature = 100

abbrev pub Property-name : ℕ
Property-name = 2

abbrev pub Property-return_type : ℕ
Property-return_type = 3

abbrev pub Property-receiver_type : ℕ
Property-receiver_type = 5

abbrev pub Property-getter_flags : ℕ
Property-getter_flags = 7

abbrev pub Property-setter_flags : ℕ
Property-setter_flags = 8

abbrev pub Property-return_type_id : ℕ
Property-return_type_id = 9

abbrev pub Property-receiver_type_id : ℕ
Property-receiver_type_id = 10

abbrev pub Property-flags : ℕ
Property-flags = 11

abbrev pub Property-property_signature : ℕ
Property-property_signature = 100

abbrev pub TypeAlias-flags : ℕ
TypeAlias-flags = 1

abbrev pub TypeAlias-name : ℕ
TypeAlias-name = 2

abbrev pub TypeAlias-underlying_type : ℕ
TypeAlias-underlying_type = 4

abbrev pub TypeAlias-underlying_type_id : ℕ
TypeAlias-underlying_type_id = 5

abbrev pub TypeAlias-expanded_type : ℕ
TypeAlias-expanded_type = 6

abbrev pub TypeAlias-expanded_type_id : ℕ
TypeAlias-expanded_type_id = 7

abbrev pub ValueParameter-flags : ℕ
ValueParameter-flags = 1

abbrev pub ValueParameter-name : ℕ
ValueParameter-name = 2

abbrev pub ValueParameter-type : ℕ
ValueParameter-type = 3

abbrev pub ValueParameter-vararg_element_type : ℕ
ValueParameter-vararg_element_type = 4

abbrev pub ValueParameter-type_id : ℕ
ValueParameter-type_id = 5

abbrev pub ValueParameter-vararg_element_type_id : ℕ
ValueParameter-vararg_element_type_id = 6

abbrev pub JvmMethodSignature-name : ℕ
JvmMethodSignature-name = 1

abbrev pub JvmMethodSignature-desc : ℕ
JvmMethodSignature-desc = 2

abbrev pub JvmFieldSignature-name : ℕ
JvmFieldSignature-name = 1

abbrev pub JvmFieldSignature-desc : ℕ
JvmFieldSignature-desc = 2

abbrev pub JvmPropertySignature-field : ℕ
JvmPropertySignature-field = 1

abbrev pub JvmPropertySignature-getter : ℕ
JvmPropertySignature-getter = 3

abbrev pub JvmPropertySignature-setter : ℕ
JvmPropertySignature-setter = 4

-- What omitted flags are (departure: a property's are 518 in metadata.proto); of parameters and accessors 0.
abbrev pub omitted_flags : ℕ
omitted_flags = 6

abbrev pub omitted_small_flags : ℕ
omitted_small_flags = 0
