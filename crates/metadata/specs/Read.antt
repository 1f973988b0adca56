-- `read`: for any input and any two areas the whole answer and every byte of both areas.
-- Assumes nothing.
use Rattle.std.specs.Prelude.{List, ℕ, if◌then◌else◌}
use Rattle.std.proofs.Math.Option.{Option}
use Rattle.foundation.specs.Choices.{if_some}
use Rattle.foundation.specs.Results.{Res, refused, ◌>>=◌}
use Rattle.foundation.specs.Texts.{Text}
use Rattle.encoding.specs.Encoding.{decoded}
use Rattle.names.specs.Names.{strings_from, d2_string}
use Rattle.declaration_rows.specs.Declarations.{Declarations}
use Rattle.inputs.specs.Inputs.{Input, kind_of, carries_declarations, fault_of}
use Rattle.inputs.specs.Outcomes.{Answer}
use Rattle.declarations.specs.Payload.{payload}
use Rattle.passes.specs.Answered.{nothing_read, answered}

-- the strings of d2, each as units
abbrev pub strings_of : Input → List (List ℕ)
strings_of i = strings_from 0 i.ends i.d2

-- The declarations, and how many types might still be entered, with a look-up of d2's strings.
abbrev pub reading_with : (ℕ → Res (Option Text)) → Input → Res (Declarations × ℕ)
reading_with strings i =
    let body = decoded i.d1 >>= payload (kind_of i.k) strings in
    let read = if carries_declarations (kind_of i.k) then body else nothing_read in
    if_some (fault_of i) read λ c. refused c 0

unfoldable pub reading : Input → Res (Declarations × ℕ)
reading i = reading_with (d2_string (strings_of i)) i

unfoldable pub read : List ℕ → List ℕ → Input → Answer
read sheet text i = answered sheet text (kind_of i.k) (reading i)
