-- What one type comes to, in the definitions' words.
-- Assumes nothing.
use Rattle.std.specs.Prelude.{◌≡◌, Bool, true, List, [], ◌∷◌, ℕ, ◌≤◌}
use Rattle.std.specs.Prelude as std
use Rattle.std.specs.Prelude.{Some, None}
use Rattle.std.proofs.Math.Option.{Option, none, some}
use Rattle.foundation.specs.Choices.{map_option}
use Rattle.names.specs.told.Name.{named_text}
use Rattle.names.specs.declared.name.Name.{Name}
use Rattle.declaration_rows.specs.Declarations.{Ty}
use Rattle.schema.specs.Reading.{Scope}
use Rattle.schema.specs.told.SchemaTold.{Lent, Scoped}
use Rattle.schema.specs.told.TypesTold.{or_nullable}
use Rattle.schema.specs.told.PlacesTold.{TypeFound}
use Rattle.erasure.specs.Erasure.{slashed, Erased, first_erased, print, print_returned}
use Rattle.erasure.specs.told.ErasureTold.{PutSized, printed_told}
use Rattle.erasure.specs.declared.Position.{Position}
use Rattle.erasure.specs.declared.Printed.{Printed}
use Rattle.descriptors.specs.told.DefaultsTold.{erased_at}
use Rattle.descriptors.specs.declared.erased.TypePart.{TypePart}
use Rattle.descriptors.specs.declared.erased.TypePart.TheVariants as type_part

-- The text of a type was written, or [ for a type whose text is [ and that of its first kept argument as an element, inner.
abbrev pub TypePartIs : Option (List ℕ) → Option Erased → ℕ → std.Option TypePart → List ℕ → List ℕ → Type 0
TypePartIs o inner at (Some (type_part.Whole size)) A A' = (text : List ℕ) × (o ≡ some text) × PutSized text at size A A'
TypePartIs o inner at (Some type_part.Bracket) A A' = (o ≡ map_option (λ e. 0x5b ∷ print e) inner) × (PutSized (0x5b ∷ []) at 1 A A')
TypePartIs o inner at None A A' = o ≡ none

-- How many bytes the part of one type takes at most: a name, L and ;.
abbrev pub type_part_cost : ℕ
type_part_cost = 131093

abbrev pub TypePartWithin : std.Option TypePart → Type 0
TypePartWithin (Some (type_part.Whole size)) = size ≤ type_part_cost
TypePartWithin (Some type_part.Bracket) = Unit {0}
TypePartWithin None = Unit {0}

-- what is printed of a type with this class name
pub record PrintedPut (e : Lent) (name : Name) (printed : Printed) (at : ℕ) (r : TypePart) (A A' : List ℕ) : Type 0 where
  pub within : TypePartWithin (Some r)
  pub is : (inner : Option Erased)
      → TypePartIs (map_option print_returned (printed_told (slashed (named_text e.payload e.d2 name)) inner (Some printed))) inner at (Some r) A A'

-- one type, whose message stands from start to end of some bytes
pub record TypePartTold (source : List ℕ) (e : Lent) (start end : ℕ) (nullable : Bool) (position : Position) (at : ℕ) (r : std.Option TypePart)
    (A A' : List ℕ) : Type 0 where
  pub within : TypePartWithin r
  pub is : (c : Scope) → Scoped e c → (left : ℕ) (t : Ty) → TypeFound source c start end left t
      → TypePartIs (map_option print_returned (erased_at position (or_nullable nullable t))) (first_erased true t.arguments) at r A A'
