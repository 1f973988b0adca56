-- Numbers and details of all refusals, in one place: document 01's twelve, then those that came later.
-- Assumes nothing.
use Rattle.std.specs.Prelude.{ℕ}
use Rattle.foundation.specs.Results.{
  Cause,
  d1_too_long,
  d2_too_long,
  string_ends,
  newer_version,
  empty_payload,
  not_a_byte,
  varint_cut_short,
  past_its_message,
  field_too_large,
  forbidden_field,
  wire_type,
  oversized_varint,
  too_many_types,
  text_too_long,
  sheet_too_long,
}

unfoldable pub number_of : Cause → ℕ
number_of d1_too_long = 1
number_of d2_too_long = 2
number_of string_ends = 3
number_of newer_version = 4
number_of empty_payload = 5
number_of (not_a_byte unit) = 6
number_of varint_cut_short = 7
number_of past_its_message = 13
number_of field_too_large = 14
number_of forbidden_field = 17
number_of (wire_type type) = 8
number_of oversized_varint = 9
number_of too_many_types = 10
number_of text_too_long = 11
number_of sheet_too_long = 12

-- The unit of 6; of 7, 8, 9, 13, 14 and 17 the place of the refusal, an offset among the decoded bytes; else 0.
unfoldable pub detail_of : Cause → ℕ → ℕ
detail_of d1_too_long place = 0
detail_of d2_too_long place = 0
detail_of string_ends place = 0
detail_of newer_version place = 0
detail_of empty_payload place = 0
detail_of (not_a_byte unit) place = unit
detail_of varint_cut_short place = place
detail_of past_its_message place = place
detail_of field_too_large place = place
detail_of forbidden_field place = place
detail_of (wire_type type) place = place
detail_of oversized_varint place = place
detail_of too_many_types place = 0
detail_of text_too_long place = 0
detail_of sheet_too_long place = 0
