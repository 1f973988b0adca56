-- d1 from its old form to the form with the marker, and back, as Kotlin's BitEncoding has the old form; and what is refused.
-- Assumes nothing.
use Rattle.std.specs.Prelude.{◌&&◌, ◌||◌, List, ◌∷◌, ◌++◌, map, ℕ, ◌+◌, ◌*◌, ◌/◌, ◌%◌, eqb, ltb, length, get_or, drop, if◌then◌else◌}
use Rattle.std.proofs.Math.Option.{Option, none, some}
use Rattle.foundation.specs.Choices.{map_option, or_else}
use Rattle.foundation.specs.Digits.{number, digits}
use Rattle.encoding.specs.Encoding.{unit_limit, byte_string_marker, unpacked, first_above255}

-- The unit that carries a group of 7 bits: 1 is added, mod 128, as BitEncoding does. `low_seven` takes the group out again.
abbrev pub carrying : ℕ → ℕ
carrying group = (group + 1) % 128

-- The old form of some bytes, as BitEncoding makes it: their bits strung together, lowest first, and cut into groups of 7, of which the last is
-- filled with zero bits. So n bytes take 8n/7 units, rounded up.
unfoldable pub old_units : List ℕ → List ℕ
old_units bytes = map carrying (digits 128 ((8 * length bytes + 6) / 7) (number 256 bytes))

-- Why d1 isn't converted.
pub data ConversionFault : Type 0 where
  too_many_units nothing_there wrong_form : ConversionFault
  unit_above255 : ℕ → ConversionFault  -- the unit
  first_unit_zero : ConversionFault
  units_area_too_short : ConversionFault

-- 1, 5, 6 and 12 are the reader's numbers; 15 and 16 are given by conversions alone.
abbrev pub fault_number : ConversionFault → ℕ
fault_number too_many_units = 1
fault_number nothing_there = 5
fault_number wrong_form = 15
fault_number (unit_above255 unit) = 6
fault_number first_unit_zero = 16
fault_number units_area_too_short = 12

abbrev pub fault_detail : ConversionFault → ℕ
fault_detail too_many_units = 0
fault_detail nothing_there = 0
fault_detail wrong_form = 0
fault_detail (unit_above255 unit) = unit
fault_detail first_unit_zero = 0
fault_detail units_area_too_short = 0

-- What is refused of d1 whatever the area: the first that applies. From old to new 1, 5, 15, 6: what starts with the marker has the wrong form.
unfoldable pub old_fault : List ℕ → Option ConversionFault
old_fault d1 =
    let unit = map_option unit_above255 (first_above255 d1) in
    let form = if eqb (get_or d1 0 0) byte_string_marker then some wrong_form else unit in
    let empty = if eqb (length d1) 0 then some nothing_there else form in
    if ltb unit_limit (length d1) then some too_many_units else empty

-- From new to old 1, 5, 15, 6, 16. The marker alone has nothing to convert; a first unit that came out as 0 would pass for the marker.
unfoldable pub new_fault : List ℕ → Option ConversionFault
new_fault d1 =
    let marked = eqb (get_or d1 0 0) byte_string_marker in
    let zero = if eqb (get_or (old_units (drop 1 d1)) 0 0) byte_string_marker then some first_unit_zero else none in
    let unit = or_else (map_option unit_above255 (first_above255 d1)) zero in
    let form = if marked then unit else some wrong_form in
    let empty = if eqb (length d1) 0 || (marked && eqb (length d1) 1) then some nothing_there else form in
    if ltb unit_limit (length d1) then some too_many_units else empty

-- The answer, and what the area holds afterwards; the length is in units.
pub record Conversion : Type 0 where
  pub number : ℕ
  pub detail : ℕ
  pub size : ℕ
  pub area : List ℕ

-- a refusal leaves the area untouched
abbrev pub not_converted : List ℕ → ConversionFault → Conversion
not_converted area fault = record { number = fault_number fault; detail = fault_detail fault; size = 0; area = area }

-- units past the length stay
abbrev pub placed_units : List ℕ → List ℕ → Conversion
placed_units area units = record { number = 0; detail = 0; size = length units; area = units ++ drop (length units) area }

-- 12 is the last refusal
abbrev pub converted_to : List ℕ → List ℕ → Conversion
converted_to area units = if ltb (length area) (length units) then not_converted area units_area_too_short else placed_units area units

abbrev pub conversion : List ℕ → Option ConversionFault → List ℕ → Conversion
conversion area none units = converted_to area units
conversion area (some fault) units = not_converted area fault

-- from old to new, into an area: the marker, then the bytes
unfoldable pub old_to_new : List ℕ → List ℕ → Conversion
old_to_new area d1 = conversion area (old_fault d1) (byte_string_marker ∷ unpacked d1)

-- from new to old: the bytes after the marker, packed
unfoldable pub new_to_old : List ℕ → List ℕ → Conversion
new_to_old area d1 = conversion area (new_fault d1) (old_units (drop 1 d1))
