-- What the code's answers tell, in the definitions' words: what is lent, what was written, what is left.
-- Assumes nothing.
use Rattle.std.specs.Prelude.{◌≡◌, Bool, true, false, List, ℕ, leb, ◌+◌, ◌*◌, ◌^◌, ◌≤◌, length, drop, get_or}
use Rattle.std.proofs.Math.Option.{Option, none, some}
use Rattle.std.proofs.Math.ListN.{get_elem?}
use Rattle.std.specs.declared.option.Option as rust
use Rattle.std.specs.declared.option.Option.TheVariants.{Some, None}
use Rattle.std.specs.declared.result.Result.{Result}
use Rattle.std.specs.declared.result.Result.TheVariants.{Ok, Err}
use Rattle.foundation.specs.Results.{Res, ok, refused, Cause, too_many_types, ◌from◌}
use Rattle.foundation.specs.declared.Tables.{Tables}
use Rattle.foundation.specs.declared.Context.{Context}
use Rattle.wire.specs.Wire.{Message, cut}
use Rattle.messages.specs.told.Asked.{index_told}
use Rattle.wire.specs.told.WireTold.{wire_cause, wire_place}
use Rattle.characters.specs.told.Places.{part_from}
use Rattle.names.specs.Names.{Names, strings_from, d2_string, ends_fit}
use Rattle.names.specs.told.Index.{start_of, end_of}
use Rattle.lookup.specs.told.Lookups.{NotesOf}
use Rattle.lookup.specs.told.Strings.{SizesOf}
use Rattle.sheet.specs.Rows.{Row}
use Rattle.sheet.specs.told.Put.{PutRows}
use Rattle.sheet.specs.declared.State.{State}
use Rattle.schema.specs.Reading.{Scope, allowance}
use Rattle.schema.specs.told.Alike.{DeepestOf}
use Rattle.schema.specs.declared.Stop.{Stop}
use Rattle.schema.specs.declared.Stop.TheVariants.{Wire, TooManyTypes}

-- The answers of the readers: what was read is written, up to a state; the same of what may not be there.
abbrev pub Walked : Type 0
Walked = Result State Stop

abbrev pub Picked : Type 0
Picked = Result (rust.Option State) Stop

abbrev pub stop_cause : Stop → Cause
stop_cause (Wire error) = wire_cause error
stop_cause TooManyTypes = too_many_types

abbrev pub stop_place : Stop → ℕ
stop_place (Wire error) = wire_place error
stop_place TooManyTypes = 0

abbrev pub stop_refused : {A : Type 0} → Stop → Res A
stop_refused stop = refused (stop_cause stop) (stop_place stop)

-- What is lent to every function: the decoded bytes, and as they are read where no look-up is left; d2 and where its strings end; the index of the name table's records, and after it
-- where the type table's entries stand among the decoded bytes.
pub record Lent : Type 0 where
  pub payload : List ℕ
  pub deepest : List ℕ
  pub d2 : List ℕ
  pub ends : List ℕ
  pub notes : List ℕ
  pub tables : Tables

abbrev pub lent_of : List ℕ → List ℕ → List ℕ → List ℕ → List ℕ → Tables → Lent
lent_of payload deepest d2 ends notes tables = record {
  payload = payload;
  deepest = deepest;
  d2 = d2;
  ends = ends;
  notes = notes;
  tables = tables;
}

abbrev pub lent : Context → Lent
lent c = lent_of c.payload.now c.deepest.now c.d2.now c.ends.now c.notes.now c.tables

-- an entry of the type table from start to end of the decoded bytes
pub record EntryAt (payload : List ℕ) (start end : ℕ) (m : Message) : Type 0 where
  pub ordered : start ≤ end
  pub inside : end ≤ length payload
  pub cuts : cut (◌from◌ start (part_from start end payload)) ≡ ok m

-- A message stands at base among the decoded bytes. No invariant of a `Located`, which doesn't hold the payload.
pub record Stands (payload msg : List ℕ) (base : ℕ) : Type 0 where
  pub inside : base + length msg ≤ length payload
  pub is : msg ≡ part_from base (base + length msg) payload

-- where each entry of the type table stands
pub record EntriesOf (payload entries : List ℕ) (count : ℕ) (types : List Message) : Type 0 where
  pub many : length types ≡ count
  pub long : count ≤ length entries
  pub each : (i : ℕ) (m : Message) → get_elem? types i ≡ some m → EntryAt payload (start_of (get_or entries i 0)) (end_of (get_or entries i 0)) m

-- the entries from the first nullable one on
abbrev pub entry_nullable : rust.Option ℕ → ℕ → Bool
entry_nullable (Some first) i = leb first i
entry_nullable None i = false

-- they are noted after the records
abbrev pub entries_in : Tables → List ℕ → List ℕ
entries_in tables notes = drop (3 * tables.records) notes

-- The index of a name table with its strings of d2.
pub record NamesOf (payload d2 ends notes : List ℕ) (count : ℕ) (n : Names) : Type 0 where
  pub strings : n.d2 ≡ d2_string (strings_from 0 ends d2)
  pub fit : ends_fit 0 ends (length d2) ≡ true
  pub sizes : SizesOf d2 ends notes
  pub records : NotesOf payload notes count n.records

-- What is lent is the scope's: the index of its names, its type table, and this as it is read where no look-up is left.
pub record Scoped (e : Lent) (s : Scope) : Type 0 where
  pub names : NamesOf e.payload e.d2 e.ends e.notes e.tables.records s.names
  pub entries : EntriesOf e.payload (entries_in e.tables e.notes) e.tables.types s.table.types
  pub nullable : s.table.first_nullable ≡ index_told e.tables.first_nullable
  pub deepest : DeepestOf e.payload e.deepest (entries_in e.tables e.notes) e.tables.types

-- How many bytes a name takes at most, and a type's record.
abbrev pub name_limit : ℕ
name_limit = 131072

abbrev pub type_length : ℕ
type_length = 10

-- The text and the records of all types that may still be entered can be counted.
pub record TypeRoom (s : State) : Type 0 where
  pub sheet : s.sheet + type_length * s.types ≤ 2 ^ 62
  pub text : s.text + name_limit * s.types ≤ 2 ^ 62
  pub types : s.types ≤ allowance

-- What a reader starts from: decoded bytes and d2 of 32,768 at most, and room. No invariant of a `Context` or an `Output`: it is about both,
-- and functions that ask for nothing take them too.
pub record Ready (e : Lent) (s : State) : Type 0 where
  pub payload-short : length e.payload ≤ 32768
  pub d2-short : length e.d2 ≤ 32768
  pub room : TypeRoom s

-- A step that enters types writes no more than is counted for them.
pub record Spends (s s' : State) : Type 0 where
  pub sheet : s'.sheet + type_length * s'.types ≤ s.sheet + type_length * s.types
  pub text : s'.text + name_limit * s'.types ≤ s.text + name_limit * s.types
  pub types : s'.types ≤ s.types

abbrev pub WalkedSpends : State → Walked → Type 0
WalkedSpends s (Ok s') = Spends s s'
WalkedSpends s (Err stop) = Unit {0}

abbrev pub PickedSpends : State → Picked → Type 0
PickedSpends s (Ok (Some s')) = Spends s s'
PickedSpends s (Ok None) = Unit {0}
PickedSpends s (Err stop) = Unit {0}

-- What was read is written, in rows, or refused.
abbrev pub WalkedTold : {A : Type 0} → Res (A × ℕ) → (A → List Row) → State → Walked → (S S' T T' : List ℕ) → Type 0
WalkedTold {A} r rows s (Ok s') S S' T T' = (a : A) × (b : ℕ) × (r ≡ ok (a, b)) × PutRows (rows a) b s s' S S' T T'
WalkedTold r rows s (Err stop) S S' T T' = r ≡ stop_refused stop

-- The same of what may not be there.
abbrev pub PickedTold : {A : Type 0} → Res (Option A × ℕ) → (A → List Row) → State → Picked → (S S' T T' : List ℕ) → Type 0
PickedTold {A} r rows s (Ok (Some s')) S S' T T' = (a : A) × (b : ℕ) × (r ≡ ok (some a, b)) × PutRows (rows a) b s s' S S' T T'
PickedTold r rows s (Ok None) S S' T T' = (r ≡ ok (none, s.types)) × (S' ≡ S) × (T' ≡ T)
PickedTold r rows s (Err stop) S S' T T' = r ≡ stop_refused stop
