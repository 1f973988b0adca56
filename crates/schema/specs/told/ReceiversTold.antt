-- What is told of whether a receiver is there.
-- Assumes nothing.
use Rattle.std.specs.Prelude.{◌≡◌, Bool, List, ℕ}
use Rattle.std.proofs.Math.Option.{Option}
use Rattle.foundation.specs.Results.{ok, ◌from◌}
use Rattle.wire.specs.Wire.{Message, cut}
use Rattle.declaration_rows.specs.Declarations.{Ty}
use Rattle.schema.specs.Reading.{Scope}
use Rattle.schema.specs.Types.{declared_type}
use Rattle.schema.specs.Members.{receiver_in}

-- Is a receiver there, where its type is accepted?
abbrev pub ReceiverTold : List ℕ → ℕ → ℕ → ℕ → Bool → Type 0
ReceiverTold msg base inline indexed r =
    (c : Scope) (m : Message) (l : ℕ) (o : Option Ty) (b : ℕ) → cut (◌from◌ base msg) ≡ ok m → declared_type c inline indexed m l ≡ ok (o, b)
    → receiver_in o indexed m ≡ r
