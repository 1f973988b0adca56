-- What the answers of the converter's functions tell.
-- Assumes nothing.
use Rattle.std.specs.Prelude.{List, ℕ, eqb, ltb, length, if◌then◌else◌, Result, Ok, Err}
use Rattle.std.proofs.Math.Option.{Option, none, some}
use Rattle.foundation.specs.Choices.{map_option}
use Rattle.encoding.specs.Encoding.{unit_limit, first_above255}
use Rattle.converter.specs.Conversions as definition
use Rattle.converter.specs.Conversions.{
  ConversionFault,
  too_many_units,
  nothing_there,
  wrong_form,
  unit_above255,
  first_unit_zero,
  units_area_too_short,
  not_converted,
}
use Rattle.converter.specs.declared.ConvertFault.{ConvertFault}
use Rattle.converter.specs.declared.ConvertFault.TheVariants.{TooManyUnits, NothingThere, WrongForm, NotAByte, FirstUnitZero, NoRoom}

-- the definitions' word for each
abbrev pub cause_of : ConvertFault → ConversionFault
cause_of TooManyUnits = too_many_units
cause_of NothingThere = nothing_there
cause_of WrongForm = wrong_form
cause_of (NotAByte unit) = unit_above255 unit
cause_of FirstUnitZero = first_unit_zero
cause_of NoRoom = units_area_too_short

-- what both conversions refuse: first by the number of units, last a unit above 255
abbrev pub size_fault : List ℕ → Option ConversionFault
size_fault d1 = if ltb unit_limit (length d1) then some too_many_units else (if eqb (length d1) 0 then some nothing_there else none)

abbrev pub byte_fault : List ℕ → Option ConversionFault
byte_fault d1 = map_option unit_above255 (first_above255 d1)

-- what is found of d1 before its units are written
abbrev pub checked_told : Result (Unit {0}) ConvertFault → Option ConversionFault
checked_told (Ok u) = none
checked_told (Err fault) = some (cause_of fault)

-- an answer, and what the area holds afterwards
abbrev pub converted_by : Result ℕ ConvertFault → List ℕ → definition.Conversion
converted_by (Ok n) area = record { number = 0; detail = 0; size = n; area = area }
converted_by (Err fault) area = not_converted area (cause_of fault)
