-- What the readers of types tell. Depth is counted down: `left` is what is left of `max_depth` at the depth d.
-- Assumes nothing.
use Rattle.std.specs.Prelude.{◌≡◌, Bool, List, [], ◌∷◌, ℕ, ◌+◌, ◌-◌, ◌≤◌, ◌<◌, length}
use Rattle.std.proofs.Math.Option.{Option, none, some}
use Rattle.std.proofs.Math.ListN.{get_elem?}
use Rattle.foundation.specs.Choices.{is_some, All}
use Rattle.foundation.specs.Results.{Res, ok, ◌from◌}
use Rattle.fields.specs.Fields.{Type-argument, Type-Argument-type, Type-Argument-type_id}
use Rattle.wire.specs.Wire.{Message, cut}
use Rattle.wire.specs.Messages.{message, messages, index, bytes_of}
use Rattle.wire.specs.told.WireTold.{wire_refused, part_between}
use Rattle.messages.specs.told.Asked.{bodies}
use Rattle.characters.specs.told.Places.{part_from}
use Rattle.sheet.specs.Rows.{Row}
use Rattle.sheet.specs.told.Put.{PutRows}
use Rattle.sheet.specs.declared.State.{State}
use Rattle.declaration_rows.specs.Declarations as declaration
use Rattle.declaration_rows.specs.Declarations.{star, projected, blank}
use Rattle.schema.specs.Reading.{Scope, pure, enter, kept, allowance}
use Rattle.schema.specs.Types.{max_depth, projection_in, argument_in, type_at}
use Rattle.schema.specs.told.SchemaTold.{Lent, Scoped, Ready, WalkedSpends, WalkedTold, stop_refused}
use Rattle.schema.specs.told.PlacesTold.{TableOf}
use Rattle.schema.specs.told.ArgumentTold.{projection_number, NoStar}
use Rattle.schema.specs.told.TypesTold.{or_nullable, rows_in}
use Rattle.schema.specs.told.Alike.{SameAtLast, ArgumentTwin}
use Rattle.foundation.specs.declared.Tables.{Tables}
use Rattle.type_references.specs.told.Pending.{rows_read, prefixed, shown_rows, argument_rows, Twinned}
use Rattle.type_references.specs.declared.arguments.TypeField.{TypeField}
use Rattle.type_references.specs.declared.arguments.TypeField.TheVariants as field
use Rattle.type_references.specs.declared.waiting.Waiting.{Waiting}
use Rattle.schema.specs.declared.argument.ArgumentHead.{ArgumentHead}
use Rattle.schema.specs.declared.argument.ArgumentHead.TheVariants as head
use Rattle.std.specs.declared.option.Option as rust
use Rattle.std.specs.declared.result.Result.{Result}
use Rattle.wire.specs.declared.WireError.{WireError}
use Rattle.std.specs.declared.option.Option.TheVariants.{Some, None}
use Rattle.std.specs.declared.result.Result.TheVariants.{Ok, Err}
use Rattle.schema.specs.told.SchemaTold.{Walked}

-- A type in a message: inline in field f, in a part of the bytes, else by its index in field g.
abbrev pub TypeIs : ℕ → List ℕ → (f g : ℕ) → Message → Result (rust.Option TypeField) WireError → Type 0
TypeIs base msg f g m (Ok (Some (field.Inline p))) =
    (inner : Message) × (cut (◌from◌ (base + p.start) (part_from p.start p.end msg)) ≡ ok inner) × (message f m ≡ ok (some inner))
TypeIs base msg f g m (Ok (Some (field.ByIndex i))) = (message f m ≡ ok none) × (index g m ≡ some i)
TypeIs base msg f g m (Ok None) = (message f m ≡ ok none) × (index g m ≡ none)
TypeIs base msg f g m (Err error) = message f m ≡ wire_refused error

abbrev pub TypeFieldInside : ℕ → Result (rust.Option TypeField) WireError → Type 0
TypeFieldInside b (Ok (Some (field.Inline p))) = (0 < p.start) × (p.start ≤ p.end) × (p.end ≤ b)
TypeFieldInside b (Ok (Some (field.ByIndex i))) = Unit {0}
TypeFieldInside b (Ok None) = Unit {0}
TypeFieldInside b (Err error) = Unit {0}

-- An argument: a star, or its type, inline in a part of the bytes or else by its index, and that it is no star.
abbrev pub ArgumentIs : ℕ → List ℕ → Message → Result ArgumentHead WireError → Type 0
ArgumentIs base msg m (Ok head.Star) = projection_in m ≡ star
ArgumentIs base msg m (Ok (head.Inline p b)) =
    (inner : Message) × (cut (part_between base msg b.start b.end) ≡ ok inner) × (message Type-Argument-type m ≡ ok (some inner))
    × (bytes_of Type-Argument-type m ≡ some (part_between base msg b.start b.end)) × NoStar (projection_number p) m
ArgumentIs base msg m (Ok (head.ByIndex p i)) =
    (message Type-Argument-type m ≡ ok none) × (index Type-Argument-type_id m ≡ some i) × NoStar (projection_number p) m
ArgumentIs base msg m (Ok head.Nothing) =
    (message Type-Argument-type m ≡ ok none) × (index Type-Argument-type_id m ≡ none) × NoStar (projection_in m) m
ArgumentIs base msg m (Err error) = (message Type-Argument-type m ≡ wire_refused error) × NoStar (projection_in m) m

abbrev pub ArgumentInside : ℕ → ℕ → Result ArgumentHead WireError → Type 0
ArgumentInside a b (Ok head.Star) = Unit {0}
ArgumentInside a b (Ok (head.Inline p i)) = (a < i.start) × (i.start ≤ i.end) × (i.end ≤ b)
ArgumentInside a b (Ok (head.ByIndex p i)) = Unit {0}
ArgumentInside a b (Ok head.Nothing) = Unit {0}
ArgumentInside a b (Err error) = Unit {0}

-- the type in a message
pub record TypeFieldTold (base : ℕ) (msg : List ℕ) (f g : ℕ) (r : Result (rust.Option TypeField) WireError) : Type 0 where
  pub is : (m : Message) → cut (◌from◌ base msg) ≡ ok m → TypeIs base msg f g m r
  pub inside : TypeFieldInside (length msg) r

-- The argument from a to b of a message. The type inline in it is alike in `last` where no look-up is left.
pub record ArgumentTold (base : ℕ) (msg last : List ℕ) (a b : ℕ) (r : Result ArgumentHead WireError) : Type 0 where
  pub is : (m : Message) → cut (◌from◌ (base + a) (part_from a b msg)) ≡ ok m → Twinned base last a b (m ∷ []) → ArgumentIs base msg m r
  pub inside : ArgumentInside a b r

-- An argument is kept, if it is read at all.
pub record KeptTold (e : Lent) (msg : List ℕ) (base left : ℕ) (r : Bool) : Type 0 where
  pub is : (c : Scope) → TableOf e.payload e.notes e.tables c → (m : Message) → cut (◌from◌ base msg) ≡ ok m → (d : ℕ) → left ≡ max_depth - d
      → (o : Option declaration.Argument) (l b : ℕ) → argument_in (type_at allowance c) c d m l ≡ ok (o, b) → r ≡ is_some o

-- How many arguments of a type are kept, if they are read at all.
pub record CountTold (e : Lent) (msg : List ℕ) (base left r : ℕ) : Type 0 where
  pub is : (c : Scope) → TableOf e.payload e.notes e.tables c → (m : Message) → cut (◌from◌ base msg) ≡ ok m → (ms : List Message)
      → messages Type-argument m ≡ ok ms → (d : ℕ) → left ≡ max_depth - d → (ts : List declaration.Argument) (l b : ℕ)
      → kept (argument_in (type_at allowance c) c d) ms l ≡ ok (ts, b) → r ≡ length ts

-- All arguments of a type are cut, and so many are kept; or one is not cut.
abbrev pub ArgumentsCut : Res (List Message) → Result ℕ WireError → Type 0
ArgumentsCut r (Ok n) = (ms : List Message) × (r ≡ ok ms)
ArgumentsCut r (Err error) = r ≡ wire_refused error

abbrev pub ArgumentsKept : Lent → List ℕ → (base left : ℕ) → Result ℕ WireError → Type 0
ArgumentsKept e msg base left (Ok n) = CountTold e msg base left n
ArgumentsKept e msg base left (Err error) = Unit {0}

pub record CountedTold (e : Lent) (msg : List ℕ) (base left : ℕ) (r : Result ℕ WireError) : Type 0 where
  pub cuts : (m : Message) → cut (◌from◌ base msg) ≡ ok m → ArgumentsCut (messages Type-argument m) r
  pub kept : ArgumentsKept e msg base left r

-- A type is entered: its own row is written, and those of its arguments are to follow.
abbrev pub EnteredIs : Scope → ℕ → Message → (role projection : ℕ) → Bool → State → Walked → (S S' T T' : List ℕ) → Type 0
EnteredIs c d m role projection nullable s (Ok s') S S' T T' =
    (ms : List Message) × (own : List Row) × (messages Type-argument m ≡ ok ms) × PutRows own s'.types s s' S S' T T'
    × (rows_read (λ t. rows_in role projection (or_nullable nullable t)) (type_at allowance c d m s.types)
    ≡ prefixed own (rows_read argument_rows (kept (argument_in (type_at allowance c) c (d + 1)) ms s'.types)))
EnteredIs c d m role projection nullable s (Err stop) S S' T T' = type_at allowance c d m s.types ≡ stop_refused stop

-- One of the types that may be entered is taken.
abbrev pub EnteredOne : State → Walked → Type 0
EnteredOne s (Ok s') = s.types ≡ 1 + s'.types
EnteredOne s (Err stop) = Unit {0}

-- A star is entered: its own row is written.
pub record StarTold (s : State) (r : Walked) (S S' T T' : List ℕ) : Type 0 where
  pub spends : WalkedSpends s r
  pub is : WalkedTold (enter (pure (projected star blank)) s.types) shown_rows s r S S' T T'

pub record EnterTold (e : Lent) (msg : List ℕ) (base left role projection : ℕ) (nullable : Bool) (s : State) (r : Walked) (S S' T T' : List ℕ) : Type 0 where
  pub spends : WalkedSpends s r
  pub one : EnteredOne s r
  pub is : (c : Scope) → Scoped e c → (m : Message) → cut (◌from◌ base msg) ≡ ok m → (d : ℕ) → left ≡ max_depth - d
      → EnteredIs c d m role projection nullable s r S S' T T'

-- All arguments of a type, one after the other; `left` is left at them. Their types inline are alike in `last` where no look-up is left.
pub record ArgumentsTold (e : Lent) (msg last : List ℕ) (base left : ℕ) (s : State) (r : Walked) (S S' T T' : List ℕ) : Type 0 where
  pub spends : WalkedSpends s r
  pub is : (c : Scope) → Scoped e c → (m : Message) → cut (◌from◌ base msg) ≡ ok m → (ms : List Message) → messages Type-argument m ≡ ok ms
      → All (ArgumentTwin base last) ms → (d : ℕ) → left ≡ max_depth - d
      → WalkedTold (kept (argument_in (type_at allowance c) c d) ms s.types) argument_rows s r S S' T T'

-- A type's message is alike in other bytes where no look-up is left.
abbrev pub Twin : ℕ → List ℕ → Message → Type 0
Twin base last m = (m' : Message) × (cut (◌from◌ base last) ≡ ok m') × SameAtLast m m'

-- A type of which that holds.
pub record TwinTold (e : Lent) (msg last : List ℕ) (base left role projection : ℕ) (nullable : Bool) (s : State) (r : Walked) (S S' T T' : List ℕ) : Type 0 where
  pub spends : WalkedSpends s r
  pub is : (c : Scope) → Scoped e c → (m : Message) → cut (◌from◌ base msg) ≡ ok m → Twin base last m → (d : ℕ) → left ≡ max_depth - d
      → WalkedTold (type_at allowance c d m s.types) (λ t. rows_in role projection (or_nullable nullable t)) s r S S' T T'

-- The area that is lent has room for all that may wait: for as many as types may still be entered, or, where there is no type to look up, for as
-- many as the message has bytes.
pub data WaitingRoom (tables : Tables) (types bytes room : ℕ) : Type 0 where
  as_types : types ≤ room → WaitingRoom tables types bytes room
  as_bytes : tables.types ≡ 0 → bytes ≤ room → WaitingRoom tables types bytes room

-- A type with no argument, where it is read at all; and the entry at an index.
abbrev pub Alone : Lent → ℕ → List ℕ → Type 0
Alone e base msg = (c : Scope) → Scoped e c → (m : Message) → cut (◌from◌ base msg) ≡ ok m → bodies Type-argument m ≡ []

abbrev pub AloneEntry : Lent → ℕ → Type 0
AloneEntry e index = (c : Scope) → Scoped e c → (m : Message) → get_elem? c.table.types index ≡ some m → bodies Type-argument m ≡ []

-- The area for a type: one with room, empty only where no type may be entered; or an empty one, for a type with no argument.
pub data FitsType (e : Lent) (base : ℕ) (msg : List ℕ) (types room : ℕ) : Type 0 where
  lent_area : WaitingRoom e.tables types (length msg) room → (room ≡ 0 → types ≡ 0) → FitsType e base msg types room
  no_area : room ≡ 0 → Alone e base msg → FitsType e base msg types room

-- the same of a look-up, which finds nothing where there is nothing
pub data FitsEntry (e : Lent) (index types room : ℕ) : Type 0 where
  roomy : types ≤ room → FitsEntry e index types room
  nowhere : e.tables.types ≡ 0 → FitsEntry e index types room
  no_entry_area : room ≡ 0 → AloneEntry e index → FitsEntry e index types room

-- What a walk of arguments starts from.
pub record NestRoom (e : Lent) (msg : List ℕ) (nest : List Waiting) (base left : ℕ) (s : State) : Type 0 where
  pub ready : Ready e s
  pub inside : base + length msg ≤ length e.payload
  pub deep : left ≤ max_depth
  pub room : WaitingRoom e.tables s.types (length msg) (length nest)

-- What the reading of a type starts from.
pub record ParseRoom (e : Lent) (msg : List ℕ) (nest : List Waiting) (base left : ℕ) (s : State) : Type 0 where
  pub ready : Ready e s
  pub inside : base + length msg ≤ length e.payload
  pub deep : left ≤ max_depth
  pub room : FitsType e base msg s.types (length nest)
