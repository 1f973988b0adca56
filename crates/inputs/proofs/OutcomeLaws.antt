-- Refusals by their numbers.
-- Assumes nothing.
use mathlib.Core.Path.{◌≡◌}
use Prim.Native.Nat.{ℕ}
use Rattle.std.specs.Prelude.{Err}
use Rattle.foundation.specs.Results.{Cause}
use Rattle.inputs.specs.Refusals.{number_of, detail_of}
use Rattle.inputs.specs.told.OutcomesTold.{refusal_cause, refusal_place, RefusedAs}
use Rattle.inputs.specs.declared.outcome.Refusal.{Refusal}

-- What `numbered` gives of a refusal, where that is a cause's number and detail.
pub refused_as : (r : Refusal) {numbered : ℕ × ℕ} → numbered ≡ (number_of (refusal_cause r), detail_of (refusal_cause r) (refusal_place r))
    → (c : Cause) (place : ℕ) → number_of c ≡ numbered.0 → detail_of c place ≡ numbered.1 → RefusedAs c place (Err r)
refused_as r e c place p q S T = rw (p, q, e)
