-- Everything that computing an answer opens, under one name: `unfolding computed` opens it all.
-- Assumes nothing.
use mathlib.Core.Bool.{Bool}
use Rattle.encoding.specs.Encoding.{decoded, first_above255, unpacked}
use Rattle.wire.specs.Wire.{groups_from, read_varint, read_bytes, read_delimited, read_fixed, read_value, read_field, repeated, cut, packed}
use Rattle.wire.specs.Messages.{values, varint_of, index, flag, bytes_of, message, bodies_of, cut_all, messages, joined, varints}
use Rattle.sheet.specs.Rows.{body_text, body_bytes, texts, sheet_from}
use Rattle.characters.specs.Characters.{is_scalar, width, utf8_of, utf8, lead_of, run, step, from_utf8_after, from_utf16}
use Rattle.characters.specs.Splits.{split_at, substring_of}
use Rattle.names.specs.Records.{record_of, predefined_text, base_text, replace_of, operated, text_of}
use Rattle.names.specs.Names.{ends_fit, records_of, record_at, string, without_last, qualified_name, strings_from, d2_string}
use Rattle.schema.specs.Reading.{kept, name_in, class_name_in, each}
use Rattle.schema.specs.Types.{resolve_at, type_in, projection_in, argument_in, parse_at, type_at, declared_type, type_table_in}
use Rattle.schema.specs.Members.{signature_of, signature_in, field_of, field_in, parameter_in, list_in, constructor_in, function_in, property_in, alias_in, lists_in, after_table, body_in, parameters_in}
use Rattle.declaration_rows.specs.Rows.{types_rows, parameter_rows, constructor_rows, function_rows, property_rows, alias_rows}
use Rattle.inputs.specs.Refusals.{number_of, detail_of}
use Rattle.inputs.specs.Inputs.{later_fault, fault_of}
use Rattle.erasure.specs.Erasure.{look_up, first_erased, erased, erased_return, print}
use Rattle.descriptors.specs.Defaults.{function_parts, constructor_parts, descriptor, closed_constructor, closed_function}
use Rattle.declarations.specs.Payload.{payload, declaration_rows}
use Rattle.passes.specs.Answered.{sheet_written, written}
use Rattle.metadata.specs.Read.{reading, read}
use Rattle.examples.specs.Cases.{Case, holds}

unfoldable pub computed : Case → Bool
unfolding
    holds decoded first_above255 unpacked groups_from read_varint read_bytes read_delimited read_fixed read_value read_field repeated cut packed
    values varint_of index flag bytes_of message bodies_of cut_all messages joined varints is_scalar width utf8_of utf8 lead_of run step from_utf8_after
    from_utf16 record_of predefined_text base_text split_at substring_of replace_of operated text_of records_of record_at string without_last qualified_name
    strings_from d2_string body_text body_bytes texts sheet_from kept each name_in class_name_in resolve_at type_in projection_in argument_in parse_at type_at declared_type
    type_table_in signature_of signature_in field_of field_in parameter_in parameters_in list_in constructor_in function_in property_in alias_in lists_in after_table body_in
    types_rows parameter_rows constructor_rows function_rows property_rows alias_rows look_up first_erased erased erased_return print function_parts
    constructor_parts descriptor closed_constructor closed_function number_of detail_of ends_fit later_fault fault_of payload reading declaration_rows sheet_written written read
computed = holds
