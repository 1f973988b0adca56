-- What the code's answers tell of the whole reading: an answer or no room.
-- Assumes nothing.
use Rattle.std.specs.Prelude.{◌≡◌, List, ℕ, ◌*◌, ◌≤◌, length, if◌then◌else◌, Result, Ok, Err}
use Rattle.foundation.specs.Results.{Res, ◌>>=◌}
use Rattle.encoding.specs.Encoding.{decoded}
use Rattle.encoding.specs.declared.DecodeError.{DecodeError}
use Rattle.encoding.specs.declared.DecodeError.TheVariants as decode
use Rattle.lookup.specs.told.Strings.{codes_from}
use Rattle.declaration_rows.specs.Declarations.{Declarations}
use Rattle.schema.specs.declared.Stop.TheVariants as stop
use Rattle.inputs.specs.Inputs.{carries_declarations}
use Rattle.inputs.specs.declared.Fault.TheVariants as fault
use Rattle.inputs.specs.declared.outcome.Refusal.TheVariants as refusal
use Rattle.declarations.specs.Payload.{payload}
use Rattle.names.specs.declared.records.IndexError.{IndexError}
use Rattle.names.specs.declared.records.IndexError.TheVariants as index
use Rattle.passes.specs.Answered.{nothing_read}
use Rattle.passes.specs.told.AreaTold.{strings}
use Rattle.passes.specs.told.TaskTold.{TaskTold}
use Rattle.passes.specs.declared.Asked.{Asked}
use Rattle.passes.specs.declared.PassError.{PassError}
use Rattle.passes.specs.declared.PassError.TheVariants as first
use Rattle.passes.specs.declared.Reply.{Reply}

-- why tables aren't noted, as why the first pass stops
abbrev pub of_index : IndexError → PassError
of_index index.NoRoom = first.NoRoom
of_index (index.Wire error) = first.Refused (refusal.Stop (stop.Wire error))

-- why d1 isn't decoded, the same
abbrev pub of_decode : DecodeError → PassError
of_decode decode.TooLong = first.Refused (refusal.Fault fault.D1TooLong)
of_decode decode.Empty = first.Refused refusal.EmptyPayload
of_decode (decode.NotAByte unit) = first.Refused (refusal.NotAByte unit)
of_decode decode.NoRoom = first.NoRoom

-- The reply to some reading or its refusal, or no room, with both areas as they were.
abbrev pub PassedTold : Asked → Res (Declarations × ℕ) → Type 0 → Result Reply PassError → (S S' T T' : List ℕ) → Type 0
PassedTold asked reading room (Ok r) S S' T T' = TaskTold asked reading (Ok r) S S' T T'
PassedTold asked reading room (Err (first.Refused r)) S S' T T' = TaskTold asked reading (Err r) S S' T T'
PassedTold asked reading room (Err first.NoRoom) S S' T T' = (room → ⊥) × (S' ≡ S) × (T' ≡ T)

-- Room for the decoded bytes and for the notes.
pub record FrameRoom (d1 bytes notes : List ℕ) : Type 0 where
  pub bytes-long : length d1 ≤ length bytes
  pub notes-long : 3 * length d1 ≤ 2 * codes_from (length notes)

-- what is read of a kind that carries declarations
abbrev pub reading_of : ℕ → List ℕ → List ℕ → List ℕ → Res (Declarations × ℕ)
reading_of kind d1 d2 ends = decoded d1 >>= payload kind (strings d2 ends)

-- and of any kind
abbrev pub reading_by : ℕ → List ℕ → List ℕ → List ℕ → Res (Declarations × ℕ)
reading_by kind d1 d2 ends = let body = reading_of kind d1 d2 ends in if carries_declarations kind then body else nothing_read
