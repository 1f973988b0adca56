-- What the code's answers tell, in the definitions' words.
-- Assumes nothing.
use Rattle.std.specs.Prelude.{◌≡◌, List, [], ◌++◌, ℕ, ◌+◌, ◌-◌, ◌^◌, ◌≤◌, ◌<◌, length, take, drop, get_or, Option, None, Some, Result, Ok, Err}
use Rattle.foundation.specs.Results.{Res, ok, refused, ◌>>=◌, Cause, varint_cut_short, past_its_message, field_too_large, forbidden_field, wire_type, oversized_varint, Part, ◌from◌, Got, got}
use Rattle.foundation.specs.declared.Read.{Read}
use Rattle.foundation.specs.declared.Span.{Span}
use Rattle.wire.specs.Wire.{Value, varint, fixed, body, Field, field, read_groups, read_varint, read_delimited, read_field, Message, cut}
use Rattle.wire.specs.Messages.{values}
use Rattle.wire.specs.declared.WireError.{WireError}
use Rattle.wire.specs.declared.WireError.TheVariants.{VarintCutShort, OversizedVarint, PastItsMessage, FieldTooLarge, ForbiddenField, WireType}
use Rattle.wire.specs.declared.WireValue.{WireValue}
use Rattle.wire.specs.declared.WireValue.TheVariants as value
use Rattle.wire.specs.declared.Field as code

abbrev pub wire_cause : WireError → Cause
wire_cause (VarintCutShort place) = varint_cut_short
wire_cause (OversizedVarint place) = oversized_varint
wire_cause (PastItsMessage place) = past_its_message
wire_cause (FieldTooLarge place) = field_too_large
wire_cause (ForbiddenField place) = forbidden_field
wire_cause (WireType kind place) = wire_type kind

abbrev pub wire_place : WireError → ℕ
wire_place (VarintCutShort place) = place
wire_place (OversizedVarint place) = place
wire_place (PastItsMessage place) = place
wire_place (FieldTooLarge place) = place
wire_place (ForbiddenField place) = place
wire_place (WireType kind place) = place

abbrev pub wire_refused : {A : Type 0} → WireError → Res A
wire_refused e = refused (wire_cause e) (wire_place e)

-- of a slice s at offset base, what is left from a place on
abbrev pub rest_of : ℕ → List ℕ → ℕ → Part
rest_of base s at = ◌from◌ (base + at) (drop at s)

-- The answer to a reading: what `of` makes of its value, which `Is` holds of, and the rest from the next place on; or its refusal.
abbrev pub ReadTold : {T V : Type 0} → (T → V) → (T → Type 0) → ℕ → List ℕ → Res (Got V) → Result (Read T) WireError → Type 0
ReadTold of Is base s r (Ok x) = (r ≡ got (of x.value) (rest_of base s x.next)) × Is x.value
ReadTold of Is base s r (Err error) = r ≡ wire_refused error

-- The answer to a reading at a place: in the slice and at its end as the definition reads there. Past the end, where the definition has no byte to
-- read either, it is refused as cut short, at the slice's end.
pub record ReadAt {V X : Type 0} (read : Part → Res V) (Told : Res V → Result X WireError → Type 0) (base : ℕ) (s : List ℕ) (at : ℕ)
    (r : Result X WireError) : Type 0 where
  pub inside : at ≤ length s → Told (read (rest_of base s at)) r
  pub past : length s < at → r ≡ Err (VarintCutShort (base + length s))

abbrev pub varint_told : ℕ → List ℕ → Result (Read ℕ) WireError → Res (Got ℕ)
varint_told base s (Ok x) = got x.value (rest_of base s x.next)
varint_told base s (Err error) = wire_refused error

abbrev pub VarintAt : ℕ → List ℕ → ℕ → Result (Read ℕ) WireError → Type 0
VarintAt base s = ReadAt read_varint (λ p r. p ≡ varint_told base s r) base s

-- The first step's answer at a place: the varint's groups are the first `count` of an area, and it has as many bytes.
abbrev pub GroupsTold : ℕ → List ℕ → ℕ → List ℕ → Result ℕ WireError → Type 0
GroupsTold base s at area (Ok count) = (read_groups (rest_of base s at) ≡ got (take count area) (rest_of base s (at + count))) × (count ≤ length area)
GroupsTold base s at area (Err error) = read_groups (rest_of base s at) ≡ wire_refused error

-- the bytes from start to end
abbrev pub part_between : ℕ → List ℕ → ℕ → ℕ → Part
part_between base s start end = ◌from◌ (base + start) (take (end - start) (drop start s))

-- A body lies in the slice and is shorter than it: `part_between` alone does not tell, since what is past the slice would be cut off.
abbrev pub SpanInside : List ℕ → Span → Type 0
SpanInside s x = (x.start ≤ x.end) × (x.end ≤ length s) × (0 < x.start)

abbrev pub DelimitedTold : ℕ → List ℕ → Res (Got Part) → Result Span WireError → Type 0
DelimitedTold base s r (Ok x) = (r ≡ got (part_between base s x.start x.end) (rest_of base s x.end)) × SpanInside s x
DelimitedTold base s r (Err error) = r ≡ wire_refused error

abbrev pub DelimitedAt : ℕ → List ℕ → ℕ → Result Span WireError → Type 0
DelimitedAt base s = ReadAt read_delimited (DelimitedTold base s) base s

abbrev pub value_of : ℕ → List ℕ → WireValue → Value
value_of base s (value.Varint n) = varint n
value_of base s (value.Fixed width n) = fixed width n
value_of base s (value.Body x) = body (part_between base s x.start x.end)

abbrev pub Inside : List ℕ → WireValue → Type 0
Inside s (value.Varint n) = Unit {0}
Inside s (value.Fixed width n) = Unit {0}
Inside s (value.Body x) = SpanInside s x

abbrev pub value_number : WireValue → Option ℕ
value_number (value.Varint n) = Some n
value_number (value.Fixed width n) = None
value_number (value.Body x) = None

abbrev pub piece_of : WireValue → Option Span
piece_of (value.Varint n) = None
piece_of (value.Fixed width n) = None
piece_of (value.Body x) = Some x

abbrev pub ValueTold : ℕ → List ℕ → Res (Got Value) → Result (Read WireValue) WireError → Type 0
ValueTold base s = ReadTold (value_of base s) (Inside s) base s

abbrev pub told_field : ℕ → List ℕ → code.Field → Field
told_field base s f = field f.number (value_of base s f.value)

abbrev pub FieldTold : ℕ → List ℕ → Res (Got Field) → Result (Read code.Field) WireError → Type 0
FieldTold base s = ReadTold (told_field base s) (λ f. Inside s f.value) base s

abbrev pub FieldAt : ℕ → List ℕ → ℕ → Result (Read code.Field) WireError → Type 0
FieldAt base s = ReadAt read_field (FieldTold base s) base s

-- What is read of a varint of one or two bytes at a place.
pub record ShortRead (s : List ℕ) (at : ℕ) (x : Read ℕ) : Type 0 where
  pub later : at < x.next
  pub inside : x.next ≤ length s
  pub small : x.value < 2 ^ 14
  pub is : (base : ℕ) → read_varint (rest_of base s at) ≡ got x.value (rest_of base s x.next)

-- At a place stand a tag and after it a varint, so read.
pub record ShortPair (s : List ℕ) (at : ℕ) (tag first : Read ℕ) : Type 0 where
  pub later : at < tag.next
  pub ends : tag.next < first.next
  pub inside : first.next ≤ length s
  pub small : tag.value < 2 ^ 14
  pub first_small : first.value < 2 ^ 14
  pub is-tag : (base : ℕ) → read_varint (rest_of base s at) ≡ got tag.value (rest_of base s tag.next)
  pub is-first : (base : ℕ) → read_varint (rest_of base s tag.next) ≡ got first.value (rest_of base s first.next)

-- no such varint says nothing
abbrev pub ShortTold : List ℕ → ℕ → Option (Read ℕ) → Type 0
ShortTold s at (Some x) = ShortRead s at x
ShortTold s at None = Unit {0}

-- What is read of a field at a place, in the slice.
pub record ShortField (s : List ℕ) (at : ℕ) (x : Read code.Field) : Type 0 where
  pub later : at < x.next
  pub inside : x.next ≤ length s
  pub is : (base : ℕ) → FieldTold base s (read_field (rest_of base s at)) (Ok x)

-- no short field says nothing
abbrev pub ShortFieldTold : List ℕ → ℕ → Option (Read code.Field) → Type 0
ShortFieldTold s at (Some x) = ShortField s at x
ShortFieldTold s at None = Unit {0}

-- Between two places stand fields, none with one of the numbers ks.
pub record Skips (base : ℕ) (s ks : List ℕ) (at next : ℕ) : Type 0 where
  pub fields : Message
  pub others : (i : ℕ) → i < length ks → values (get_or ks i 0) fields ≡ []
  pub cuts : cut (rest_of base s at) ≡ (cut (rest_of base s next) >>= λ m. ok (fields ++ m))

pub record SkipTold (s ks : List ℕ) (at next : ℕ) : Type 0 where
  pub later : at ≤ next
  pub inside : next ≤ at + (length s - at)
  pub is : (base : ℕ) → Skips base s ks at next

-- What a walk gives that stands at `at` and passes over fields with none of the numbers ks: a field, a refusal, or nothing at the slice's end. It then stands at
-- `next`.
abbrev pub GivesField : ℕ → List ℕ → List ℕ → ℕ → Option (Result code.Field WireError) → ℕ → Type 0
GivesField base s ks at None next = SkipTold s ks at next × (length s ≤ next)
GivesField base s ks at (Some (Ok f)) next =
    (i : ℕ) × SkipTold s ks at i × (i < length s) × FieldTold base s (read_field (rest_of base s i)) (Ok (record { value = f; next = next }))
GivesField base s ks at (Some (Err e)) next =
    (i : ℕ) × SkipTold s ks at i × (i < length s) × FieldTold base s (read_field (rest_of base s i)) (Err e)

pub record FieldsNext (base : ℕ) (s ks : List ℕ) (at : ℕ) (r : Option (Result code.Field WireError)) (next : ℕ) : Type 0 where
  pub gives : GivesField base s ks at r next
