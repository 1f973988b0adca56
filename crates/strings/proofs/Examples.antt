-- The examples, computed; and that the theorem can't be turned round.
-- Assumes nothing.
use mathlib.Core.Path.{◌≡◌, refl, ap}
use mathlib.Core.Logic.{◌≢◌}
use Prim.Native.Nat.{ℕ}
use native.Mathlib.Omega.{arith}
use lib.ListN.{get_or}
use Rattle.foundation.specs.Choices.{All}
use Rattle.encoding.specs.Encoding.{decoded, first_above255, unpacked}
use Rattle.wire.specs.Wire.{groups_from, read_varint, read_bytes, read_delimited, read_fixed, read_value, read_field, repeated, cut, packed}
use Rattle.wire.specs.Messages.{values, varint_of, index, flag, bytes_of, message, bodies_of, cut_all, messages, joined, varints}
use Rattle.sheet.specs.Rows.{body_text, body_bytes, texts, sheet_from}
use Rattle.characters.specs.Characters.{is_scalar, width, utf8_of, utf8, from_utf16}
use Rattle.names.specs.Records.{record_of, predefined_text, base_text, replace_of, operated, text_of}
use Rattle.names.specs.Names.{ends_fit, records_of, record_at, string, without_last, qualified_name, strings_from, d2_string}
use Rattle.schema.specs.Reading.{kept, each, name_in, class_name_in}
use Rattle.schema.specs.Types.{resolve_at, type_in, projection_in, argument_in, parse_at, type_at, declared_type, type_table_in}
use Rattle.schema.specs.Members.{signature_of, signature_in, field_of, field_in, parameter_in, parameters_in, list_in, constructor_in, function_in, property_in, alias_in, lists_in, after_table, body_in}
use Rattle.declaration_rows.specs.Rows.{types_rows, function_rows}
use Rattle.inputs.specs.Refusals.{number_of, detail_of}
use Rattle.inputs.specs.Inputs.{later_fault, fault_of}
use Rattle.inputs.specs.Outcomes.{Answer}
use Rattle.erasure.specs.Erasure.{look_up, erased, erased_return, print}
use Rattle.descriptors.specs.Defaults.{function_parts, descriptor, closed_function}
use Rattle.declarations.specs.Payload.{payload, declaration_rows}
use Rattle.passes.specs.Answered.{sheet_written, written}
use Rattle.metadata.specs.Read.{reading, read}
use Rattle.strings.specs.FallsTo.{stopped_at, FallsTo, PassesBy}
use Rattle.strings.specs.Examples.{Shown, examples, ChangedStrings}

-- everything that a reading opens
unfoldable opened : ℕ
unfolding
    decoded first_above255 unpacked groups_from read_varint read_bytes read_delimited read_fixed read_value read_field repeated cut packed values varint_of index flag
    bytes_of message bodies_of cut_all messages joined varints is_scalar from_utf16 record_of predefined_text base_text replace_of operated text_of records_of
    record_at string without_last qualified_name strings_from d2_string kept each name_in class_name_in resolve_at type_in projection_in argument_in parse_at type_at declared_type
    type_table_in signature_of signature_in field_of field_in parameter_in parameters_in list_in constructor_in function_in property_in alias_in lists_in after_table body_in
    ends_fit later_fault fault_of payload reading
opened = 0

pub examples_hold : All Shown examples
unfolding opened stopped_at FallsTo PassesBy
examples_hold = (((λ c p. refl, (λ c p. refl, tt)), (λ c p. refl, tt)), (((λ c p. refl, (λ c p. refl, (λ c p. refl, tt))), tt), (((λ c p. refl, (λ c p. refl, tt)), (λ c p. refl, tt)), ((tt, (λ c p. refl, (λ c p. refl, (λ c p. refl, (λ c p. refl, tt))))), (((λ c p. refl, (λ c p. refl, tt)), (λ c p. refl, tt)), (((λ c p. refl, tt), (λ c p. refl, (λ c p. refl, tt))), (((λ c p. refl, tt), (λ c p. refl, (λ c p. refl, tt))), (((λ c p. refl, tt), (λ c p. refl, (λ c p. refl, tt))), ((tt, (λ c p. refl, (λ c p. refl, (λ c p. refl, tt)))), tt)))))))))

module _ (n : ℕ) where
  -- answers whose texts differ in unit n
  differ : (a b : Answer) → (get_or a.text n 0 ≡ get_or b.text n 0 → ⊥) → a ≢ b
  differ a b h e = h (ap (λ (x : Answer). get_or x.text n 0) e)

pub changed-strings : ChangedStrings
unfolding
    opened width utf8_of utf8 body_text body_bytes texts sheet_from types_rows function_rows look_up erased erased_return print function_parts descriptor closed_function
    number_of detail_of declaration_rows sheet_written written read
changed-strings = record {
  name = differ 0 _ _ λ e. omega (arith, e);
  descriptor = differ 2 _ _ λ e. omega (arith, e);
  dropped = refl;
}
