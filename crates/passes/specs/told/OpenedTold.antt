-- What joining the type table of the decoded bytes changes: nothing that is read of them.
-- Assumes nothing.
use Rattle.std.specs.Prelude.{◌≡◌, List, ℕ, length}
use Rattle.std.proofs.Math.Option.{Option}
use Rattle.foundation.specs.Results.{Res}
use Rattle.foundation.specs.Texts.{Text}
use Rattle.declarations.specs.Payload.{payload}

-- As many bytes, of which the same is read, with whatever strings of d2.
pub record BytesJoined (bytes bytes' : List ℕ) : Type 0 where
  pub many : length bytes' ≡ length bytes
  pub reads : (kind : ℕ) (d2 : ℕ → Res (Option Text)) → payload kind d2 bytes' ≡ payload kind d2 bytes
