-- What the code's answers about the decoded bytes tell: the name table and the type table noted.
-- Assumes nothing.
use Rattle.std.specs.Prelude.{◌≡◌, List, ℕ, ◌+◌, ◌*◌, ◌^◌, ◌≤◌, ◌<◌, length, drop, true, Result, Ok, Err}
use Rattle.std.proofs.Math.Option.{Option}
use Rattle.foundation.specs.Results as Results
use Rattle.foundation.specs.Results.{Res, ok, ◌from◌}
use Rattle.foundation.specs.Texts.{Text}
use Rattle.fields.specs.Fields.{Class-type_table}
use Rattle.wire.specs.Wire.{Message, cut}
use Rattle.wire.specs.told.WireTold.{wire_refused}
use Rattle.messages.specs.told.Asked.{index_told}
use Rattle.names.specs.Records.{Record}
use Rattle.names.specs.Names.{Names, ends_fit}
use Rattle.names.specs.told.Index.{IndexOf}
use Rattle.lookup.specs.told.Lookups.{NotesOf}
use Rattle.lookup.specs.told.Strings.{codes_from, SizesOf}
use Rattle.declaration_rows.specs.Declarations.{Declarations}
use Rattle.schema.specs.Reading.{TypeTable, allowance}
use Rattle.schema.specs.Types.{type_table_in}
use Rattle.schema.specs.told.SchemaTold.{Lent, lent_of, EntriesOf, entries_in}
use Rattle.schema.specs.told.Alike.{DeepestOf}
use Rattle.foundation.specs.declared.Tables.{Tables}
use Rattle.declarations.specs.Payload.{body_of, payload}
use Rattle.declarations.specs.declared.payload.Opened.{Opened}
use Rattle.names.specs.declared.records.IndexError.{IndexError}
use Rattle.names.specs.declared.records.IndexError.TheVariants as index

-- the body from a place of the decoded bytes on
abbrev pub body_from : ℕ → Names → List ℕ → ℕ → Res (Declarations × ℕ)
body_from kind names bytes at = Results.◌>>=◌ (cut (◌from◌ at (drop at bytes))) λ body. body_of kind names body allowance

-- The body is cut, and where the entries of its type table stand is noted.
pub record BodyAt (bytes : List ℕ) (at : ℕ) (entries : List ℕ) (tables : Tables) : Type 0 where
  pub body : Message
  pub cuts : cut (◌from◌ at (drop at bytes)) ≡ ok body
  pub table : TypeTable
  pub reads : (l : ℕ) → type_table_in Class-type_table body l ≡ ok (table, l)
  pub noted : EntriesOf bytes entries tables.types table.types
  pub nullable : table.first_nullable ≡ index_told tables.first_nullable

-- Half as many entries as the body has bytes, whose places fit 32 bits.
pub record BodyRoom (bytes : List ℕ) (at : ℕ) (entries : List ℕ) : Type 0 where
  pub inside : at ≤ length bytes
  pub short : length bytes < 2 ^ 32
  pub long : length bytes ≤ at + 2 * length entries

abbrev pub BodyOpened : List ℕ → ℕ → ℕ → List ℕ → Result Opened IndexError → Type 0
BodyOpened bytes at records entries (Ok o) = (o.at ≡ at) × (o.tables.records ≡ records) × BodyAt bytes at entries o.tables
BodyOpened bytes at records entries (Err (index.Wire error)) = (kind : ℕ) (names : Names) → body_from kind names bytes at ≡ wire_refused error
BodyOpened bytes at records entries (Err index.NoRoom) = BodyRoom bytes at entries → ⊥

-- The same after the records, which are worked out before.
pub record NotedOpened (bytes : List ℕ) (at records : ℕ) (before after : List ℕ) (r : Result Opened IndexError) : Type 0 where
  pub names : (rs : List Record) → length bytes < 65536 → IndexOf bytes before records rs → NotesOf bytes after records rs
  pub body : BodyOpened bytes at records (drop (3 * records) after) r

-- The decoded bytes are opened: what is noted of the name table's records is lent besides.
pub record OpenedAt (bytes notes : List ℕ) (at : ℕ) (tables : Tables) : Type 0 where
  pub inside : at ≤ length bytes
  pub is : BodyAt bytes at (entries_in tables notes) tables
  pub records : List Record
  pub names : NotesOf bytes notes tables.records records
  pub opens : (kind : ℕ) (d2 : ℕ → Res (Option Text)) → payload kind d2 bytes ≡ body_from kind (record { records = records; d2 = d2 }) bytes at

-- Room for the notes of both tables, in which a place has 16 bits: a record takes two bytes at least and three words, an entry two bytes and one word.
pub record NotesRoom (bytes notes : List ℕ) : Type 0 where
  pub short : length bytes < 65536
  pub long : 3 * length bytes ≤ 2 * length notes

abbrev pub OpenedTold : List ℕ → List ℕ → Result Opened IndexError → Type 0
OpenedTold bytes notes (Ok o) = OpenedAt bytes notes o.at o.tables
OpenedTold bytes notes (Err (index.Wire error)) = (kind : ℕ) (d2 : ℕ → Res (Option Text)) → payload kind d2 bytes ≡ wire_refused error
OpenedTold bytes notes (Err index.NoRoom) = NotesRoom bytes notes → ⊥

-- All that a reader is lent of the decoded bytes: their tables, and after these the sizes of d2's long strings.
pub record LentAt (e : Lent) (at : ℕ) : Type 0 where
  pub opened : OpenedAt e.payload e.notes at e.tables
  pub sizes : ends_fit 0 e.ends (length e.d2) ≡ true → SizesOf e.d2 e.ends e.notes
  pub deepest : DeepestOf e.payload e.deepest (entries_in e.tables e.notes) e.tables.types

-- room for it
pub record LentRoom (bytes notes : List ℕ) : Type 0 where
  pub short : length bytes < 65536
  pub long : 3 * length bytes ≤ 2 * codes_from (length notes)

abbrev pub LentTold : List ℕ → List ℕ → List ℕ → List ℕ → Result Opened IndexError → Type 0
LentTold bytes d2 ends notes (Ok o) = LentAt (lent_of bytes bytes d2 ends notes o.tables) o.at
LentTold bytes d2 ends notes (Err (index.Wire error)) = (kind : ℕ) (strings : ℕ → Res (Option Text)) → payload kind strings bytes ≡ wire_refused error
LentTold bytes d2 ends notes (Err index.NoRoom) = LentRoom bytes notes → ⊥
