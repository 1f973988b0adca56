-- What look-ups in the index of the name table's records tell.
-- Assumes nothing.
use Rattle.std.specs.Prelude.{◌≡◌, Bool, false, List, ℕ, suc, ◌+◌, ◌*◌, ◌^◌, ◌≤◌, ◌<◌, length, get_or, if◌then◌else◌, Some, None}
use Rattle.std.proofs.Math.Option.{Option, none, some}
use Rattle.std.proofs.Math.ListN.{get_elem?}
use Rattle.foundation.specs.Choices.{if_some}
use Rattle.foundation.specs.Results.{Res, ok}
use Rattle.foundation.specs.Texts.{Text}
use Rattle.names.specs.Records.{Record, decides}
use Rattle.names.specs.Names.{record_at, Names, string, qualified_name}
use Rattle.names.specs.told.Name.{name_text}
use Rattle.names.specs.told.Index.{start_of, end_of, served_from, Sums}
use Rattle.record_names.specs.told.Named.{NoteTold}
use Rattle.names.specs.declared.name.Name.{Name}
use Rattle.record_names.specs.declared.note.Words.{Words}
use Rattle.foundation.specs.declared.Span.{Span}
use Rattle.std.specs.declared.option.Option as rust

abbrev pub found_in : List Record → rust.Option ℕ → Option Record
found_in records (Some at) = get_elem? records at
found_in records None = none

-- one of so many records
abbrev pub FoundBelow : ℕ → rust.Option ℕ → Type 0
FoundBelow count (Some at) = at < count
FoundBelow count None = Unit {0}

-- it is record k of so many that serves an index
abbrev pub ServesTold : List ℕ → ℕ → ℕ → ℕ → Type 0
ServesTold notes count k index = (k < count) × (served_from notes k ≤ index) × (index < served_from notes (suc k))

-- the record that serves an index
pub record FindTold (notes : List ℕ) (count index : ℕ) (r : rust.Option ℕ) : Type 0 where
  pub below : FoundBelow count r
  pub is : (records : List Record) → Sums notes count records → record_at index records ≡ found_in records r

-- the entries of record k, if they are a part of the bytes
abbrev pub PlaceTold : List ℕ → List ℕ → ℕ → rust.Option Span → Type 0
PlaceTold bytes notes k (Some p) =
    (p.start ≡ start_of (get_or notes (3 * k) 0)) × (p.end ≡ end_of (get_or notes (3 * k) 0)) × (p.start ≤ p.end) × (p.end ≤ length bytes) × (p.start < 2 ^ 32) × (3 * k + 2 < length notes)
PlaceTold bytes notes k None =
    3 * k + 2 < length notes → start_of (get_or notes (3 * k) 0) ≤ end_of (get_or notes (3 * k) 0) → end_of (get_or notes (3 * k) 0) ≤ length bytes → ⊥

-- a name, or with `class` a class name, by its index
abbrev pub looked_up : Bool → Names → ℕ → Res (Option Text)
looked_up class names index = if class then qualified_name names index else string names index

-- what a look-up comes to, by whether a record decides
abbrev pub DecidedIs : List ℕ → List ℕ → Bool → Names → ℕ → rust.Option (rust.Option Name) → Type 0
DecidedIs bytes units class names index (Some name) = looked_up class names index ≡ ok (name_text bytes units name)
DecidedIs bytes units class names index None = string names index ≡ names.d2 index

-- The index of a name table's records, each worked out: what it builds, and which indices it serves.
pub record NotesOf (bytes notes : List ℕ) (count : ℕ) (records : List Record) : Type 0 where
  pub sums : Sums notes count records
  pub each : (k : ℕ) (r : Record) → get_elem? records k ≡ some r → NoteTold bytes r (get_or notes (3 * k) 0) (get_or notes (3 * k + 1) 0)

-- the words of the record that serves an index
abbrev pub NotedWords : List ℕ → ℕ → ℕ → rust.Option Words → Type 0
NotedWords notes count index (Some w) =
    (bytes : List ℕ) (records : List Record) → NotesOf bytes notes count records
    → (r : Record) × (record_at index records ≡ some r) × NoteTold bytes r w.place w.steps
NotedWords notes count index None = (bytes : List ℕ) (records : List Record) → NotesOf bytes notes count records → record_at index records ≡ none

abbrev pub DecidedTold : List ℕ → ℕ → ℕ → Bool → rust.Option (rust.Option Name) → Type 0
DecidedTold notes count index class r =
    (bytes units : List ℕ) (records : List Record) (d2 : ℕ → Res (Option Text)) → NotesOf bytes notes count records
    → DecidedIs bytes units class (record { records = records; d2 = d2 }) index r

-- whether a record decides an index
abbrev pub decided_in : List Record → ℕ → Bool
decided_in records index = if_some (record_at index records) false decides
