-- What a message says of a field. Departure: the first occurrence of a field counts, of whatever wire type, where the guide takes the
-- last fitting one and merges messages.
-- Assumes nothing.
use Rattle.std.specs.Prelude.{Bool, false, not, List, [], ◌∷◌, ◌++◌, ℕ, ◌^◌, eqb, ltb, if◌then◌else◌}
use Rattle.std.proofs.Math.Option.{Option, none, some}
use Rattle.foundation.specs.Choices.{if_some}
use Rattle.foundation.specs.Results.{Res, ok, ◌>>=◌, Part}
use Rattle.wire.specs.Wire.{Value, varint, fixed, body, Message, cut, packed}

-- every occurrence of field n, in order
unfoldable pub values : ℕ → Message → List Value
values n [] = []
values n (f ∷ m) = if eqb f.number n then f.value ∷ values n m else values n m

abbrev pub first_of : List Value → Option Value
first_of [] = none
first_of (v ∷ vs) = some v

abbrev pub value : ℕ → Message → Option Value
value n m = first_of (values n m)

abbrev pub as_varint : Value → Option ℕ
as_varint (varint n) = some n
as_varint (fixed w n) = none
as_varint (body p) = none

abbrev pub as_body : Value → Option Part
as_body (varint n) = none
as_body (fixed w n) = none
as_body (body p) = some p

-- The field's number, with all its 64 bits (departure: the schemas' int32 keeps 32).
unfoldable pub varint_of : ℕ → Message → Option ℕ
varint_of n m = if_some (value n m) none as_varint

abbrev pub as32 : ℕ → Option ℕ
as32 n = if ltb n (2 ^ 32) then some n else none

-- A number above 2^32 - 1 is no index (departure: the guide cuts it to 32 bits).
unfoldable pub index : ℕ → Message → Option ℕ
index n m = if_some (varint_of n m) none as32

unfoldable pub flag : ℕ → Message → Bool
flag n m = if_some (varint_of n m) false λ v. not (eqb v 0)

-- the bytes of the first occurrence, if that is length-delimited
unfoldable pub bytes_of : ℕ → Message → Option Part
bytes_of n m = if_some (value n m) none as_body

abbrev pub cut_option : Option Part → Res (Option Message)
cut_option none = ok none
cut_option (some p) = cut p >>= λ m. ok (some m)

-- the embedded message in field n, cut
unfoldable pub message : ℕ → Message → Res (Option Message)
message n m = cut_option (bytes_of n m)

unfoldable pub bodies_of : List Value → List Part
bodies_of [] = []
bodies_of (v ∷ vs) = if_some (as_body v) (bodies_of vs) λ p. p ∷ bodies_of vs

unfoldable pub cut_all : List Part → Res (List Message)
cut_all [] = ok []
cut_all (p ∷ ps) = cut p >>= λ m. cut_all ps >>= λ ms. ok (m ∷ ms)

-- the embedded messages of a list, all cut before the first is read; occurrences of another wire type are skipped
unfoldable pub messages : ℕ → Message → Res (List Message)
messages n m = cut_all (bodies_of (values n m))

abbrev pub varints_in : Value → Res (List ℕ)
varints_in (varint n) = ok (n ∷ [])
varints_in (fixed w n) = ok []
varints_in (body p) = packed p

unfoldable pub joined : List Value → Res (List ℕ)
joined [] = ok []
joined (v ∷ vs) = varints_in v >>= λ ns. joined vs >>= λ more. ok (ns ++ more)

-- single and packed values of a repeated number, joined in order
unfoldable pub varints : ℕ → Message → Res (List ℕ)
varints n m = joined (values n m)
