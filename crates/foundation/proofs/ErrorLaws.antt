-- What `?` hands on.
-- Assumes nothing.
use mathlib.Core.Path.{◌≡◌, ap}
use Rattle.std.specs.Prelude.{Result, Ok, Err}
use Rattle.std.specs.Result.{IsErrAnd}

-- an error that is handed on as it is
pub handed_on : {T E : Type 0} {e : E} (r : Result T E) → IsErrAnd r (λ x. x ≡ e) → r ≡ Err e
handed_on (Ok x) h = absurd h
handed_on (Err x) h = ap Err h
