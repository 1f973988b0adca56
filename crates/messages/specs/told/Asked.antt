-- What the code's answers about a message tell, in the definitions' words.
-- Assumes nothing.
use Rattle.std.specs.Prelude.{◌≡◌, List, [], ◌∷◌, ℕ, ◌≤◌, ◌<◌, eqb, length, if◌then◌else◌, Some, None, Result, Ok, Err}
use Rattle.std.proofs.Math.Option.{Option, none, some}
use Rattle.std.specs.declared.option.Option as rust
use Rattle.foundation.specs.Choices.{if_some}
use Rattle.foundation.specs.declared.Span.{Span}
use Rattle.foundation.specs.Results.{Res, ok, Part, ◌from◌}
use Rattle.wire.specs.Wire.{Value, read_field, Message, cut}
use Rattle.wire.specs.Messages.{values, value, as32, bytes_of, message, bodies_of}
use Rattle.wire.specs.told.WireTold.{wire_refused, rest_of, value_of, part_between, Inside, FieldTold, value_number, piece_of}
use Rattle.wire.specs.declared.WireError.{WireError}
use Rattle.wire.specs.declared.WireValue.{WireValue}

-- a part of a slice by its places
abbrev pub span : ℕ → ℕ → Span
span start end = record { start = start; end = end }

-- a reading is accepted, or refused so
abbrev pub CheckedTold : {A : Type 0} → Res A → Result Unit WireError → Type 0
CheckedTold {A} r (Ok u) = (a : A) × (r ≡ ok a)
CheckedTold r (Err error) = r ≡ wire_refused error

abbrev pub found_told : ℕ → List ℕ → rust.Option WireValue → Option Value
found_told base s (Some v) = some (value_of base s v)
found_told base s None = none

abbrev pub FoundInside : List ℕ → rust.Option WireValue → Type 0
FoundInside s (Some v) = Inside s v
FoundInside s None = Unit {0}

-- the slice's first occurrence of field n
pub record FoundTold (base : ℕ) (s : List ℕ) (n : ℕ) (r : rust.Option WireValue) : Type 0 where
  pub is : (m : Message) → cut (◌from◌ base s) ≡ ok m → value n m ≡ found_told base s r
  pub inside : FoundInside s r

-- the same from a place on
pub record FoundFrom (base : ℕ) (s : List ℕ) (n at : ℕ) (r : rust.Option WireValue) : Type 0 where
  pub is : (m : Message) → cut (rest_of base s at) ≡ ok m → value n m ≡ found_told base s r
  pub inside : FoundInside s r

-- a value that was found is that of the field at a place
abbrev pub FoundAt : List ℕ → ℕ → ℕ → rust.Option WireValue → Type 0
FoundAt s n at (Some v) =
    (at < length s) × (next : ℕ) × ((base : ℕ) → FieldTold base s (read_field (rest_of base s at)) (Ok (record { value = record { number = n; value = v }; next = next })))
FoundAt s n at None = Unit {0}

-- what was found of field k before a field with the number n and the value v, or, of field k itself, that value
abbrev pub found_or : rust.Option WireValue → ℕ → ℕ → WireValue → rust.Option WireValue
found_or (Some x) k n v = Some x
found_or None k n v = if eqb n k then Some v else None

abbrev pub number_told : rust.Option ℕ → Option ℕ
number_told (Some v) = some v
number_told None = none

abbrev pub number_in : rust.Option WireValue → rust.Option ℕ
number_in (Some v) = value_number v
number_in None = None

abbrev pub piece_in : rust.Option WireValue → rust.Option Span
piece_in (Some v) = piece_of v
piece_in None = None

abbrev pub piece_told : ℕ → List ℕ → rust.Option Span → Option Part
piece_told base s (Some p) = some (part_between base s p.start p.end)
piece_told base s None = none

abbrev pub PieceInside : List ℕ → rust.Option Span → Type 0
PieceInside s (Some p) = (p.start ≤ p.end) × (p.end ≤ length s) × (0 < p.start)
PieceInside s None = Unit {0}

pub record BytesTold (base : ℕ) (s : List ℕ) (n : ℕ) (r : rust.Option Span) : Type 0 where
  pub is : (m : Message) → cut (◌from◌ base s) ≡ ok m → bytes_of n m ≡ piece_told base s r
  pub inside : PieceInside s r

abbrev pub index_told : rust.Option ℕ → Option ℕ
index_told (Some i) = some i
index_told None = none

abbrev pub index_in : rust.Option WireValue → Option ℕ
index_in f = if_some (number_told (number_in f)) none as32

-- the message in field n, cut
abbrev pub EmbeddedIs : ℕ → List ℕ → ℕ → Message → Result (rust.Option Span) WireError → Type 0
EmbeddedIs base s n m (Ok (Some p)) =
    (inner : Message) × (cut (part_between base s p.start p.end) ≡ ok inner) × (message n m ≡ ok (some inner))
EmbeddedIs base s n m (Ok None) = message n m ≡ ok none
EmbeddedIs base s n m (Err error) = message n m ≡ wire_refused error

abbrev pub EmbeddedInside : List ℕ → Result (rust.Option Span) WireError → Type 0
EmbeddedInside s (Ok (Some p)) = (p.start ≤ p.end) × (p.end ≤ length s) × (0 < p.start)
EmbeddedInside s (Ok None) = Unit {0}
EmbeddedInside s (Err error) = Unit {0}

pub record EmbeddedTold (base : ℕ) (s : List ℕ) (n : ℕ) (r : Result (rust.Option Span) WireError) : Type 0 where
  pub is : (m : Message) → cut (◌from◌ base s) ≡ ok m → EmbeddedIs base s n m r
  pub inside : EmbeddedInside s r

-- the bodies of field n in a message
abbrev pub bodies : ℕ → Message → List Part
bodies n m = bodies_of (values n m)

-- of a field with the number n, if number k is asked for
abbrev pub piece_if : ℕ → ℕ → WireValue → rust.Option Span
piece_if k n v = if eqb n k then piece_of v else None

-- The bodies of field n in a message's rest m: the piece and those after it, of what is left from its end on.
abbrev pub NextIs : ℕ → List ℕ → ℕ → Message → rust.Option Span → Type 0
NextIs base s n m (Some p) =
    (rest : Message) × (cut (rest_of base s p.end) ≡ ok rest) × (bodies n m ≡ part_between base s p.start p.end ∷ bodies n rest)
NextIs base s n m None = bodies n m ≡ []

-- a piece that ends later than a place
abbrev pub PieceAfter : ℕ → rust.Option Span → Type 0
PieceAfter at (Some p) = at < p.end
PieceAfter at None = Unit {0}

-- a piece that begins later than a place
abbrev pub PieceBegins : ℕ → rust.Option Span → Type 0
PieceBegins at (Some p) = at < p.start
PieceBegins at None = Unit {0}

-- where a walk that stood at a place stands after it gave a piece
abbrev pub after_body : ℕ → rust.Option Span → ℕ
after_body at (Some p) = p.end
after_body at None = at

pub record NextBodyTold (base : ℕ) (s : List ℕ) (n at : ℕ) (r : rust.Option Span) : Type 0 where
  pub is : (m : Message) → cut (rest_of base s at) ≡ ok m → NextIs base s n m r
  pub inside : PieceInside s r
  pub later : PieceAfter at r
  pub begins : PieceBegins at r
