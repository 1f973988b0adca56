-- What joining changes in a message's bytes.
-- Assumes nothing.
use Rattle.std.specs.Prelude.{◌≡◌, List, ℕ, ◌+◌, length, take, drop, Ok}
use Rattle.foundation.specs.declared.Read.{Read}
use Rattle.wire.specs.Wire.{read_field}
use Rattle.wire.specs.told.WireTold.{rest_of, FieldTold}
use Rattle.wire.specs.declared.Field as code
use Rattle.wire.specs.declared.WireValue.TheVariants as wire

-- t is as long as s, and the same outside the bytes from one place to another
pub record SameAround (s t : List ℕ) (from to : ℕ) : Type 0 where
  pub many : length t ≡ length s
  pub before : take from t ≡ take from s
  pub after : drop to t ≡ drop to s

-- the field that joining makes of the bytes from a place to another
abbrev pub joined_field : ℕ → ℕ → Read code.Field
joined_field from to = record { value = record { number = 15; value = wire.Body (record { start = from + 4; end = to }) }; next = to }

-- the run is as it was, or it is one field
pub data OneField (s t : List ℕ) (from to : ℕ) : Type 0 where
  unchanged : t ≡ s → OneField s t from to
  one_field : ((base : ℕ) → FieldTold base t (read_field (rest_of base t from)) (Ok (joined_field from to))) → OneField s t from to

pub record RunJoined (s t : List ℕ) (from to : ℕ) : Type 0 where
  pub around : SameAround s t from to
  pub run : OneField s t from to
