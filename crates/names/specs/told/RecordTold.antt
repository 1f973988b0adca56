-- What the code's answers about a record tell, in the definitions' words.
-- Assumes nothing.
use Rattle.std.specs.Prelude.{◌≡◌, List, ℕ}
use Rattle.std.proofs.Math.Option.{Option, none, some}
use Rattle.std.specs.declared.option.Option as rust
use Rattle.foundation.specs.Choices.{if_some}
use Rattle.foundation.specs.Results.{ok, ◌from◌}
use Rattle.wire.specs.Wire.{Message, cut}
use Rattle.messages.specs.told.Asked.{number_told, piece_told, PieceInside, index_told, number_in}
use Rattle.wire.specs.declared.WireValue.{WireValue}
use Rattle.messages.specs.declared.repeated.Two.{Two}
use Rattle.messages.specs.declared.repeated.Two.TheVariants.{Neither, One, Both}
use Rattle.names.specs.Records.{record_of}
use Rattle.names.specs.Records as definition
use Rattle.names.specs.declared.records.Record.{Record}

abbrev pub operation_in : rust.Option WireValue → ℕ
operation_in f = if_some (number_told (number_in f)) 0 λ n. n

abbrev pub both_numbers : Two → Option (ℕ × ℕ)
both_numbers Neither = none
both_numbers (One a) = none
both_numbers (Both a b) = some (a, b)

-- the record of a slice's message
abbrev pub record_told : ℕ → List ℕ → Record → definition.Record
record_told base s r = record {
  range = r.range;
  string = piece_told base s r.string;
  predefined = index_told r.predefined;
  operation = r.operation;
  substring = both_numbers r.substring;
  replaced = both_numbers r.replaced;
}

pub record RecordTold (base : ℕ) (s : List ℕ) (r : Record) : Type 0 where
  pub is : (m : Message) → cut (◌from◌ base s) ≡ ok m → record_of m ≡ record_told base s r
  pub inside : PieceInside s r.string
