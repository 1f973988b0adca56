-- The wire format of Protocol Buffers' encoding guide: varints, fields, and the cutting of a message into fields.
-- Assumes nothing.
use Rattle.std.specs.Prelude.{Bool, false, List, [], ◌∷◌, ℕ, zero, suc, ◌+◌, ◌/◌, ◌%◌, ◌^◌, eqb, ltb, length, take, drop, if◌then◌else◌}
use Rattle.foundation.specs.Results.{Res, ok, refused, ◌>>=◌, varint_cut_short, past_its_message, field_too_large, forbidden_field, wire_type, oversized_varint, Cause, Part, ◌from◌, Got, got, map_got}
use Rattle.foundation.specs.Digits.{number}

-- What a byte gives to its varint, with k more bytes allowed after it: its low 7 bits, the tenth only its lowest bit.
abbrev pub group : ℕ → ℕ → ℕ
group zero b = b % 2
group (suc k) b = b % 128

-- The groups of a varint that began at offset s: of at most k bytes more, the next at offset a. The byte after the tenth refuses as
-- oversized if it is there, and as cut short if it isn't.
unfoldable pub groups_from : ℕ → ℕ → ℕ → List ℕ → Res (Got (List ℕ))
groups_from s k a [] = refused varint_cut_short s
groups_from s zero a (b ∷ bs) = refused oversized_varint s
groups_from s (suc k) a (b ∷ bs) =
    let more = map_got (λ gs. group k b ∷ gs) (groups_from s k (a + 1) bs) in
    if ltb b 128 then got (group k b ∷ []) (◌from◌ (a + 1) bs) else more

-- A varint, by the guide's two steps. First the continuation bits are dropped, which leaves its groups.
abbrev pub read_groups : Part → Res (Got (List ℕ))
read_groups p = groups_from p.at 10 p.at p.bytes

-- Then the groups are joined, from the last to the first: the first byte's group is the lowest digit.
unfoldable pub read_varint : Part → Res (Got ℕ)
read_varint p = map_got (number 128) (read_groups p)

-- the next n bytes; `place` is told if they run past the message
unfoldable pub read_bytes : ℕ → ℕ → Part → Res (Got Part)
read_bytes place n p =
    let rest = ◌from◌ (p.at + n) (drop n p.bytes) in
    if ltb (length p.bytes) n then refused past_its_message place else got (◌from◌ p.at (take n p.bytes)) rest

-- A length-delimited body: its length as a varint, then its bytes.
unfoldable pub read_delimited : Part → Res (Got Part)
read_delimited p = read_varint p >>= λ (n, rest). read_bytes p.at n rest

pub data Value : Type 0 where
  varint : ℕ → Value
  fixed : ℕ → ℕ → Value  -- its width in bytes, its number
  body : Part → Value

unfoldable pub read_fixed : ℕ → Part → Res (Got Value)
read_fixed w p = map_got (λ bs. fixed w (number 256 bs.bytes)) (read_bytes p.at w p)

-- the encoding guide's wire types
abbrev pub VARINT : ℕ
VARINT = 0

abbrev pub I64 : ℕ
I64 = 1

abbrev pub LEN : ℕ
LEN = 2

abbrev pub I32 : ℕ
I32 = 5

-- The value after a tag at `place`, by its wire type. Departure: groups (the guide's SGROUP 3 and EGROUP 4) are refused.
unfoldable pub read_value : ℕ → ℕ → Part → Res (Got Value)
read_value place type p =
    let fixed4 = if eqb type I32 then read_fixed 4 p else refused (wire_type type) place in
    let delimited = if eqb type LEN then map_got body (read_delimited p) else fixed4 in
    let fixed8 = if eqb type I64 then read_fixed 8 p else delimited in
    if eqb type VARINT then map_got varint (read_varint p) else fixed8

pub record Field : Type 0 where
  pub number : ℕ
  pub value : Value

abbrev pub field : ℕ → Value → Field
field n v = record { number = n; value = v }

-- the encoding guide's field numbers: 1 to 536,870,911
abbrev pub is_field_number : ℕ → Bool
is_field_number zero = false
is_field_number (suc n) = ltb (suc n) (2 ^ 29)

-- why another number is refused: it is above 32 bits, or else the guide forbids it
abbrev pub wrong_number : ℕ → Cause
wrong_number n = if ltb n (2 ^ 32) then forbidden_field else field_too_large

-- A field: its tag, field number * 8 + wire type, and its value. The number is tested before the wire type.
unfoldable pub read_field : Part → Res (Got Field)
read_field p =
    read_varint p >>= λ (tag, rest).
    let value = map_got (field (tag / 8)) (read_value p.at (tag % 8) rest) in
    if is_field_number (tag / 8) then value else refused (wrong_number (tag / 8)) p.at

abbrev pub is_empty : List ℕ → Bool
is_empty [] = Bool.true
is_empty (b ∷ bs) = Bool.false

-- what `read` reads again and again until the part is used up, at most k times
unfoldable pub repeated : {A : Type 0} → (Part → Res (Got A)) → ℕ → Part → Res (List A)
repeated read zero p = ok []
repeated read (suc k) p =
    let more = read p >>= λ (x, rest). repeated read k rest >>= λ xs. ok (x ∷ xs) in
    if is_empty p.bytes then ok [] else more

-- Everything in a part, one after the other. Each takes a byte at least, so that the number of bytes is never too few steps.
abbrev pub every : {A : Type 0} → (Part → Res (Got A)) → Part → Res (List A)
every read p = repeated read (length p.bytes) p

abbrev pub Message : Type 0
Message = List Field

-- cutting: the fields of a whole message, in order; what stands in a field is not looked into
unfoldable pub cut : Part → Res Message
cut = every read_field

-- a packed run
unfoldable pub packed : Part → Res (List ℕ)
packed = every read_varint
