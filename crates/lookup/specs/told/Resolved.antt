-- What working an index out tells.
-- Assumes nothing.
use Rattle.std.specs.Prelude.{◌≡◌, List, ℕ, ◌+◌, ◌*◌, ◌<◌, length, get_or}
use Rattle.names.specs.Records.{Record}
use Rattle.names.specs.told.Index.{start_of, end_of, RecordAt}
use Rattle.record_names.specs.told.Named.{NoteTold}

-- record k is worked out, and nothing else is changed
pub record OneTold (bytes before after : List ℕ) (k : ℕ) : Type 0 where
  pub others : (j : ℕ) → (j ≡ 3 * k → ⊥) → (j ≡ 3 * k + 1 → ⊥) → get_or after j 0 ≡ get_or before j 0
  pub told : 3 * k + 2 < length before → (r : Record)
      → RecordAt bytes (start_of (get_or before (3 * k) 0)) (end_of (get_or before (3 * k) 0)) r
      → NoteTold bytes r (get_or after (3 * k) 0) (get_or after (3 * k + 1) 0)
