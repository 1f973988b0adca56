-- What was read of a list, one for one and in order.
-- Assumes nothing.
use Rattle.std.specs.Prelude.{◌≡◌, List, [], ◌∷◌, ℕ}
use Rattle.foundation.specs.Results.{ok, Part}
use Rattle.wire.specs.Wire.{Message, cut}
use Rattle.schema.specs.Reading.{Read}

-- Parts of the decoded bytes, and what f read of them: as many, and each is what f read of the message that its part is cut into. The
-- numbers are of the types that might be entered, before the first and after the last; each reading leaves what the next one finds.
pub data OneForOne {A : Type 0} (f : Message → Read A) : List Part → List A → ℕ → ℕ → Type 0 where
  no_more : {l : ℕ} → OneForOne f [] [] l l
  one_more : {p : Part} {ps : List Part} {a : A} {as' : List A} {l k b : ℕ} (m : Message)
      → cut p ≡ ok m
      → f m l ≡ ok (a, k)
      → OneForOne f ps as' k b
      → OneForOne f (p ∷ ps) (a ∷ as') l b
