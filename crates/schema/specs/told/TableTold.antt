-- What the code's answers about a type table tell, in the definitions' words.
-- Assumes nothing.
use Rattle.std.specs.Prelude.{◌≡◌, List, ℕ, ◌^◌, ◌≤◌, ◌<◌, length}
use Rattle.std.proofs.Math.Option.{some}
use Rattle.std.specs.declared.result.Result.{Result}
use Rattle.std.specs.declared.result.Result.TheVariants.{Ok, Err}
use Rattle.foundation.specs.Results.{ok}
use Rattle.fields.specs.Fields.{TypeTable-type, TypeTable-first_nullable}
use Rattle.wire.specs.Wire.{Message}
use Rattle.wire.specs.Messages.{index, messages, message}
use Rattle.wire.specs.told.WireTold.{wire_refused}
use Rattle.messages.specs.told.Asked.{index_told, bodies}
use Rattle.schema.specs.Reading.{TypeTable}
use Rattle.schema.specs.Types.{type_table_in}
use Rattle.schema.specs.told.SchemaTold.{EntriesOf}
use Rattle.names.specs.declared.records.IndexError.{IndexError}
use Rattle.names.specs.declared.records.IndexError.TheVariants.{NoRoom, Wire}
use Rattle.schema.specs.declared.table.TypeIndex.{TypeIndex}

-- room for the places of so many entries
pub record EntryRoom (notes : List ℕ) (count : ℕ) : Type 0 where
  pub long : count ≤ length notes

-- of the table m, the entries noted
abbrev pub EntriesTold : List ℕ → Message → List ℕ → Result ℕ IndexError → Type 0
EntriesTold bytes m notes (Ok count) =
    (ms : List Message) × (messages TypeTable-type m ≡ ok ms) × EntriesOf bytes notes count ms
EntriesTold bytes m notes (Err NoRoom) = EntryRoom notes (length (bodies TypeTable-type m)) → ⊥
EntriesTold bytes m notes (Err (Wire error)) = messages TypeTable-type m ≡ wire_refused error

-- and from which of them on all are nullable
abbrev pub TableTold : List ℕ → Message → List ℕ → Result TypeIndex IndexError → Type 0
TableTold payload m notes (Ok x) =
    (ms : List Message) × (messages TypeTable-type m ≡ ok ms) × EntriesOf payload notes x.count ms × (index TypeTable-first_nullable m ≡ index_told x.first)
TableTold payload m notes (Err NoRoom) = EntryRoom notes (length (bodies TypeTable-type m)) → ⊥
TableTold payload m notes (Err (Wire error)) = messages TypeTable-type m ≡ wire_refused error

-- Room for the type table in field n of the message m, which is the decoded bytes from `at` on: a place among them that fits 32 bits, and
-- room for each of its entries.
pub record TableRoom (payload : List ℕ) (at n : ℕ) (m : Message) (notes : List ℕ) : Type 0 where
  pub inside : at ≤ length payload
  pub short : length payload < 2 ^ 32
  pub entries : (table : Message) → message n m ≡ ok (some table) → EntryRoom notes (length (bodies TypeTable-type table))

-- the type table in field n of a message
abbrev pub TypeIndexTold : List ℕ → ℕ → ℕ → Message → List ℕ → Result TypeIndex IndexError → Type 0
TypeIndexTold payload at n m notes (Ok x) =
    (table : TypeTable) × ((l : ℕ) → type_table_in n m l ≡ ok (table, l)) × EntriesOf payload notes x.count table.types
    × (table.first_nullable ≡ index_told x.first)
TypeIndexTold payload at n m notes (Err NoRoom) = TableRoom payload at n m notes → ⊥
TypeIndexTold payload at n m notes (Err (Wire error)) = (l : ℕ) → type_table_in n m l ≡ wire_refused error
