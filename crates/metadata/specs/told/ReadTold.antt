-- What the answer of `read` tells.
-- Assumes nothing.
use Rattle.std.specs.Prelude.{List, ℕ}
use Rattle.inputs.specs.Outcomes as definition
use Rattle.inputs.specs.told.OutcomesTold.{told}
use Rattle.metadata.specs.declared.Answer.{Answer}

-- an answer, and what both areas hold afterwards
abbrev pub told_by : Answer → List ℕ → List ℕ → definition.Answer
told_by r sheet text = told r.outcome sheet text
