-- What the answer of `strings` tells.
-- Assumes nothing.
use Rattle.std.specs.Prelude.{ℕ, Result, Ok, Err}
use Rattle.inputs.specs.told.OutcomesTold.{refusal_cause, refusal_place}
use Rattle.inputs.specs.declared.outcome.Refusal.{Refusal}
use Rattle.string_marks.specs.UsedStrings.{UsedAnswer, used_refused}

abbrev pub tells_used : Result ℕ Refusal → UsedAnswer
tells_used (Ok count) = record { number = 0; detail = 0; count = count }
tells_used (Err refusal) = used_refused (refusal_cause refusal) (refusal_place refusal)
