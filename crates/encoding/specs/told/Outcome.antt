-- What `decode` answers for d1, and what the lent area then holds.
-- Assumes nothing.
use Rattle.std.specs.Prelude.{◌≡◌, List, ◌++◌, ℕ, ltb, length, take, drop, if◌then◌else◌, Result, Ok, Err, Some, None}
use Rattle.std.specs.Prelude as std
use Rattle.std.proofs.Math.Option.{Option, none, some}
use Rattle.foundation.specs.Results.{Cause, d1_too_long, empty_payload, not_a_byte, Res, ok, refused}
use Rattle.encoding.specs.Encoding.{unit_limit, decoded}
use Rattle.encoding.specs.declared.DecodeError.{DecodeError}
use Rattle.encoding.specs.declared.DecodeError.TheVariants.{TooLong, Empty, NotAByte, NoRoom}

-- d1 within its limit, decoded
unfoldable pub limited : List ℕ → Res (List ℕ)
limited units = let within = decoded units in if ltb unit_limit (length units) then refused d1_too_long 0 else within

-- what `decode` answers: how many bytes, or why there are none
abbrev pub Decoded : Type 0
Decoded = Result ℕ DecodeError

-- Document 01's cause of each answer: 1, 5, and 6 with the unit as detail. NoRoom is no refusal of document 01: the reader lends enough room.
abbrev pub decoded_cause : Decoded → Option Cause
decoded_cause (Err TooLong) = some d1_too_long
decoded_cause (Err Empty) = some empty_payload
decoded_cause (Err (NotAByte unit)) = some (not_a_byte unit)
decoded_cause (Err NoRoom) = none
decoded_cause (Ok n) = none

-- the answer, and the area afterwards, where d1 has these bytes
abbrev pub decoded_into : ℕ → List ℕ → Decoded
decoded_into room bytes = if ltb room (length bytes) then Err NoRoom else Ok (length bytes)

abbrev pub placed : List ℕ → List ℕ → List ℕ
placed area bytes = if ltb (length area) (length bytes) then area else bytes ++ drop (length bytes) area

-- What is promised of the answer and of the area: before, after. A refusal leaves it untouched.
abbrev pub DecodeTold : Res (List ℕ) → List ℕ → List ℕ → Decoded → Type 0
DecodeTold (ok bytes) before after answer = (answer ≡ decoded_into (length before) bytes) × (after ≡ placed before bytes)
DecodeTold (refused cause place) before after answer = (decoded_cause answer ≡ some cause) × (after ≡ before)

-- What an answer and the area tell of d1: its bytes, or why it is refused. Nothing where there was no room.
abbrev pub tells : Decoded → List ℕ → Option (Res (List ℕ))
tells (Ok n) area = some (ok (take n area))
tells (Err TooLong) area = some (refused d1_too_long 0)
tells (Err Empty) area = some (refused empty_payload 0)
tells (Err (NotAByte unit)) area = some (refused (not_a_byte unit) 0)
tells (Err NoRoom) area = none

-- the search for a unit above 255, as the code answers it
abbrev pub above_of : Option ℕ → std.Option ℕ
above_of none = None
above_of (some unit) = Some unit
