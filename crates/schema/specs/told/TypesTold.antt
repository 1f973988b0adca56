-- What the readers of types tell. Depth is counted down: `left` is what is left of `max_depth` at the depth d.
-- Assumes nothing.
use Rattle.std.specs.Prelude.{◌≡◌, Bool, ◌||◌, List, ℕ, ◌-◌, ◌≤◌, ◌<◌, length, get_or}
use Rattle.std.proofs.Math.Option.{Option, none, some}
use Rattle.std.proofs.Math.ListN.{get_elem?}
use Rattle.std.specs.declared.option.Option.TheVariants.{Some}
use Rattle.std.specs.declared.result.Result.TheVariants.{Ok, Err}
use Rattle.foundation.specs.Results.{ok, ◌from◌}
use Rattle.wire.specs.Wire.{Message, cut}
use Rattle.characters.specs.told.Places.{part_from}
use Rattle.names.specs.told.Index.{start_of, end_of}
use Rattle.sheet.specs.Rows.{Row}
use Rattle.sheet.specs.declared.State.{State}
use Rattle.declaration_rows.specs.Declarations.{invariant, no_types, Ty, with_type}
use Rattle.schema.specs.Reading.{Scope, allowance}
use Rattle.schema.specs.Types.{max_depth, resolve_at, type_in, type_at, declared_type}
use Rattle.declaration_rows.specs.Rows.{types_rows}
use Rattle.schema.specs.told.SchemaTold.{Lent, Scoped, Walked, Picked, WalkedSpends, PickedSpends, WalkedTold, PickedTold, EntriesOf}
use Rattle.std.specs.declared.option.Option as rust
use Rattle.std.specs.declared.option.Option.TheVariants.{None}
use Rattle.foundation.specs.declared.Span.{Span}

-- a type that is nullable also where another says so
abbrev pub or_nullable : Bool → Ty → Ty
or_nullable nullable t = record { nullable = nullable || t.nullable; name = t.name; arguments = t.arguments }

-- the rows of a type, by its role and its projection
abbrev pub rows_in : ℕ → ℕ → Ty → List Row
rows_in role projection t = types_rows role (with_type projection t no_types)

-- what was walked, as something that may not be there
abbrev pub picked_of : Walked → Picked
picked_of (Ok s) = Ok (Some s)
picked_of (Err stop) = Err stop

-- an entry of the type table
abbrev pub EntryIs : List ℕ → Option Message → rust.Option Span → Type 0
EntryIs payload o (Some p) = (m : Message) × (o ≡ some m) × (cut (◌from◌ p.start (part_from p.start p.end payload)) ≡ ok m)
EntryIs payload o None = o ≡ none

abbrev pub EntryInside : List ℕ → rust.Option Span → Type 0
EntryInside payload (Some p) = (p.start ≤ p.end) × (p.end ≤ length payload)
EntryInside payload None = Unit {0}

-- it is one of so many
abbrev pub EntryBelow : ℕ → ℕ → rust.Option Span → Type 0
EntryBelow count i (Some p) = i < count
EntryBelow count i None = Unit {0}

-- It stands where its note says. Where nothing is found, no entry is noted there, or an empty one.
abbrev pub EntryPlaced : List ℕ → List ℕ → ℕ → ℕ → rust.Option Span → Type 0
EntryPlaced payload entries count i (Some p) = (p.start ≡ start_of (get_or entries i 0)) × (p.end ≡ end_of (get_or entries i 0))
EntryPlaced payload entries count i None =
    i < count → start_of (get_or entries i 0) ≤ end_of (get_or entries i 0) → end_of (get_or entries i 0) ≤ length payload
    → end_of (get_or entries i 0) ≤ start_of (get_or entries i 0)

pub record EntryTold (payload entries : List ℕ) (count i : ℕ) (r : rust.Option Span) : Type 0 where
  pub is : (types : List Message) → EntriesOf payload entries count types → EntryIs payload (get_elem? types i) r
  pub inside : EntryInside payload r
  pub below : EntryBelow count i r
  pub placed : EntryPlaced payload entries count i r

-- a type
pub record ParseTold (e : Lent) (msg : List ℕ) (base left role projection : ℕ) (nullable : Bool) (s : State) (r : Walked) (S S' T T' : List ℕ) : Type 0 where
  pub spends : WalkedSpends s r
  pub is : (c : Scope) → Scoped e c → (m : Message) → cut (◌from◌ base msg) ≡ ok m → (d : ℕ) → left ≡ max_depth - d
      → WalkedTold (type_at allowance c d m s.types) (λ t. rows_in role projection (or_nullable nullable t)) s r S S' T T'

-- a type by its index
pub record ResolveTold (e : Lent) (index left role projection : ℕ) (s : State) (r : Picked) (S S' T T' : List ℕ) : Type 0 where
  pub spends : PickedSpends s r
  pub is : (c : Scope) → Scoped e c → (d : ℕ) → left ≡ max_depth - d
      → PickedTold (resolve_at (type_at allowance c) c d index s.types) (rows_in role projection) s r S S' T T'

-- a type in a message
pub record TypeInTold (e : Lent) (msg : List ℕ) (base inline indexed left role : ℕ) (s : State) (r : Picked) (S S' T T' : List ℕ) : Type 0 where
  pub spends : PickedSpends s r
  pub is : (c : Scope) → Scoped e c → (m : Message) → cut (◌from◌ base msg) ≡ ok m → (d : ℕ) → left ≡ max_depth - d
      → PickedTold (type_in (type_at allowance c) c d inline indexed m s.types) (rows_in role invariant) s r S S' T T'

-- a declaration's own type
pub record DeclaredTold (e : Lent) (msg : List ℕ) (base inline indexed role : ℕ) (s : State) (r : Picked) (S S' T T' : List ℕ) : Type 0 where
  pub spends : PickedSpends s r
  pub is : (c : Scope) → Scoped e c → (m : Message) → cut (◌from◌ base msg) ≡ ok m
      → PickedTold (declared_type c inline indexed m s.types) (rows_in role invariant) s r S S' T T'
