-- Where the message of a type stands that a reading has accepted.
-- Assumes nothing.
use Rattle.std.specs.Prelude.{◌≡◌, Bool, true, false, ◌&&◌, if◌then◌else◌, leb, List, [], ◌∷◌, ℕ, ◌+◌, ◌-◌, ◌*◌, ◌≤◌, ◌<◌, length}
use Rattle.std.proofs.Math.Option.{Option, none, some}
use Rattle.std.specs.declared.option.Option as rust
use Rattle.std.specs.declared.option.Option.TheVariants.{Some, None}
use Rattle.foundation.specs.Choices.{All}
use Rattle.foundation.specs.Results.{ok, ◌from◌}
use Rattle.foundation.specs.declared.Tables.{Tables}
use Rattle.fields.specs.Fields.{Type-argument}
use Rattle.wire.specs.Wire.{Message, cut}
use Rattle.wire.specs.Messages.{bytes_of, messages}
use Rattle.messages.specs.told.Asked.{index_told, span}
use Rattle.characters.specs.told.Places.{part_from}
use Rattle.declaration_rows.specs.Declarations.{Ty, Argument}
use Rattle.schema.specs.Reading.{Scope, kept, allowance}
use Rattle.schema.specs.Types.{max_depth, resolve_at, type_in, argument_in, type_at, declared_type}
use Rattle.schema.specs.told.SchemaTold.{EntryAt, EntriesOf, entries_in}
use Rattle.schema.specs.told.TypesTold.{or_nullable}
use Rattle.schema.specs.told.Alike.{Alike, SameAtLast, TwinAt, ArgumentTwin, DeepestOf}
use Rattle.schema.specs.declared.FoundType.{FoundType}

-- The bytes among which a type is read, by whether it stands in the type table and what is left of the depth at it.
abbrev pub read_in : List ℕ → List ℕ → Bool → ℕ → List ℕ
read_in payload deepest in_table left = if in_table && leb left 1 then deepest else payload

abbrev pub found_type : ℕ → ℕ → Bool → ℕ → Bool → FoundType
found_type start end nullable left is_entry = record { part = span start end; reached = record { nullable = nullable; left = left }; is_entry = is_entry }

-- The type table of a scope, by the places of its entries.
pub record TableOf (payload notes : List ℕ) (tables : Tables) (c : Scope) : Type 0 where
  pub entries : EntriesOf payload (entries_in tables notes) tables.types c.table.types
  pub nullable : c.table.first_nullable ≡ index_told tables.first_nullable

-- A type that a reading has given: the message that stands from start to end is its own, at the depth where `left` is left.
pub record TypeFound (payload : List ℕ) (c : Scope) (start end left : ℕ) (t : Ty) : Type 0 where
  pub message : Message
  pub at : EntryAt payload start end message
  pub depth : ℕ
  pub deep : left ≡ max_depth - depth
  pub before : ℕ
  pub after : ℕ
  pub given : type_at allowance c depth message before ≡ ok (t, after)

-- What was found is the type that the reading gave, if it gave one: an entry among the decoded bytes, or inline among those in which its message stands.
abbrev pub FoundTypeTold : List ℕ → List ℕ → Scope → Option Ty → rust.Option FoundType → Type 0
FoundTypeTold source payload c o (Some x) =
    (t : Ty) × TypeFound (if x.is_entry then payload else source) c x.part.start x.part.end x.reached.left t × (o ≡ some (or_nullable x.reached.nullable t))
FoundTypeTold source payload c o None = o ≡ none

-- A message from start to end of one list of bytes is read as that of the other where no look-up is left.
abbrev pub Twins : List ℕ → List ℕ → ℕ → ℕ → Type 0
Twins payload deepest start end = Alike SameAtLast (cut (◌from◌ start (part_from start end payload))) (cut (◌from◌ start (part_from start end deepest)))

-- An entry that was found is read so among the bytes that are joined for that.
abbrev pub EntryTwins : List ℕ → List ℕ → Tables → rust.Option FoundType → Type 0
EntryTwins payload notes tables (Some x) =
    x.is_entry ≡ true → (deepest : List ℕ) → DeepestOf payload deepest (entries_in tables notes) tables.types → Twins payload deepest x.part.start x.part.end
EntryTwins payload notes tables None = Unit {0}

-- What was found is an entry.
abbrev pub IsEntry : rust.Option FoundType → Type 0
IsEntry (Some x) = x.is_entry ≡ true
IsEntry None = Unit {0}

-- A type that was found inline is read so among other bytes.
abbrev pub InlineTwins : List ℕ → List ℕ → rust.Option FoundType → Type 0
InlineTwins source deepest (Some x) = x.is_entry ≡ false → Twins source deepest x.part.start x.part.end
InlineTwins source deepest None = Unit {0}

-- It stands among the decoded bytes, whatever is lent.
abbrev pub FoundTypeInside : List ℕ → rust.Option FoundType → Type 0
FoundTypeInside payload (Some x) = (x.part.start ≤ x.part.end) × (x.part.end ≤ length payload)
FoundTypeInside payload None = Unit {0}

-- How far a walk from a type to its arguments can still go: the bytes of its message, and as many for each look-up that the depth allows.
abbrev pub reach : ℕ → ℕ → ℕ → ℕ
reach left start end = left * 32769 + (end - start)

-- What was found is no less deep, and the walk from it goes less far than from the message of start to end.
abbrev pub FoundTypeFalls : ℕ → ℕ → ℕ → rust.Option FoundType → Type 0
FoundTypeFalls left start end (Some x) = (x.reached.left ≤ left) × (reach x.reached.left x.part.start x.part.end < reach left start end)
FoundTypeFalls left start end None = Unit {0}

-- the type at an index of the type table
pub record EntryFound (payload notes : List ℕ) (tables : Tables) (index left : ℕ) (r : rust.Option FoundType) : Type 0 where
  pub inside : FoundTypeInside payload r
  pub falls : FoundTypeFalls left 0 0 r
  pub entry : IsEntry r
  pub twins : EntryTwins payload notes tables r
  pub is : (source : List ℕ) (c : Scope) → TableOf payload notes tables c → (d : ℕ) → left ≡ max_depth - d → (o : Option Ty) (l b : ℕ)
      → resolve_at (type_at allowance c) c d index l ≡ ok (o, b) → FoundTypeTold source payload c o r

-- The type in a message from start to end of some bytes, where `left` is left. What is told of other bytes: if the type inline is so in a part of them.
pub record PlaceFound (source payload notes : List ℕ) (tables : Tables) (start end inline indexed left : ℕ) (r : rust.Option FoundType) : Type 0 where
  pub inside : FoundTypeInside payload r
  pub falls : FoundTypeFalls left start end r
  pub twins : EntryTwins payload notes tables r
  pub inline_twins : (m : Message) → EntryAt source start end m → (deepest : List ℕ) (first last : ℕ) → first ≤ start → end ≤ last → last ≤ length deepest
      → TwinAt first (part_from first last deepest) (bytes_of inline m) → InlineTwins source deepest r
  pub is : (c : Scope) → TableOf payload notes tables c → (m : Message) → EntryAt source start end m → (d : ℕ) → left ≡ max_depth - d
      → (o : Option Ty) (l b : ℕ) → type_in (type_at allowance c) c d inline indexed m l ≡ ok (o, b) → FoundTypeTold source payload c o r

-- the type of the first of some arguments
abbrev pub head_type : List Argument → Option Ty
head_type [] = none
head_type (a ∷ more) = some a.type

-- There is none, or it has no name.
abbrev pub Unnamed : Option Ty → Type 0
Unnamed none = Unit {0}
Unnamed (some t) = t.name ≡ none

-- What was found is the first kept argument's type. Nothing is found where there is none, and of a star, which has no name.
abbrev pub ElementTold : List ℕ → List ℕ → Scope → Option Ty → rust.Option FoundType → Type 0
ElementTold source payload c o (Some x) = FoundTypeTold source payload c o (Some x)
ElementTold source payload c o None = Unnamed o

-- a declaration's own type, in a message from start to end
pub record DeclaredFound (payload notes : List ℕ) (tables : Tables) (start end inline indexed : ℕ) (r : rust.Option FoundType) : Type 0 where
  pub inside : FoundTypeInside payload r
  pub falls : FoundTypeFalls max_depth start end r
  pub twins : EntryTwins payload notes tables r
  pub is : (c : Scope) → TableOf payload notes tables c → (m : Message) → EntryAt payload start end m → (o : Option Ty) (l b : ℕ)
      → declared_type c inline indexed m l ≡ ok (o, b) → FoundTypeTold payload payload c o r

-- The first kept argument of a type whose message stands from start to end of some bytes; `left` is left at its arguments. What is told of other bytes, as
-- many: if all types inline in its arguments are so in the part from start to end of them.
pub record ArgumentFound (source payload notes : List ℕ) (tables : Tables) (start end left : ℕ) (r : rust.Option FoundType) : Type 0 where
  pub inside : FoundTypeInside payload r
  pub falls : FoundTypeFalls left start end r
  pub twins : EntryTwins payload notes tables r
  pub is : (c : Scope) → TableOf payload notes tables c → (m : Message) → EntryAt source start end m → (ms : List Message)
      → messages Type-argument m ≡ ok ms → (d : ℕ) → left ≡ max_depth - d → (ts : List Argument) (l b : ℕ)
      → kept (argument_in (type_at allowance c) c d) ms l ≡ ok (ts, b) → ElementTold source payload c (head_type ts) r
      × ((deepest : List ℕ) → length deepest ≡ length source → All (ArgumentTwin start (part_from start end deepest)) ms → InlineTwins source deepest r)
