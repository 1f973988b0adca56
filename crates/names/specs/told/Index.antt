-- The index of the name table's records, one entry a record.
-- Assumes nothing.
use Rattle.std.specs.Prelude.{◌≡◌, List, [], ◌∷◌, map, ℕ, zero, suc, ◌+◌, ◌*◌, ◌/◌, ◌%◌, ◌^◌, ◌≤◌, ◌<◌, length, get_or, Some, None}
use Rattle.std.proofs.Math.Option.{some}
use Rattle.std.proofs.Math.ListN.{get_elem?}
use Rattle.foundation.specs.Results.{ok, ◌from◌}
use Rattle.fields.specs.Fields.{StringTableTypes-record}
use Rattle.wire.specs.Wire.{Message, cut}
use Rattle.wire.specs.Messages.{messages}
use Rattle.wire.specs.told.WireTold.{wire_refused}
use Rattle.messages.specs.told.Asked.{bodies}
use Rattle.characters.specs.told.Places.{part_from}
use Rattle.names.specs.Records.{Record, record_of}
use Rattle.names.specs.Names.{records_of}
use Rattle.foundation.specs.declared.Span.{Span}
use Rattle.std.specs.declared.option.Option as rust
use Rattle.std.specs.declared.result.Result.{Result}
use Rattle.std.specs.declared.result.Result.TheVariants.{Ok, Err}
use Rattle.names.specs.declared.records.IndexError.{IndexError}
use Rattle.names.specs.declared.records.IndexError.TheVariants.{NoRoom, Wire}

-- running sums, from n on: what comes before each number, and last before what would come next
unfoldable pub sums_from : ℕ → List ℕ → List ℕ
sums_from n [] = n ∷ []
sums_from n (r ∷ rs) = n ∷ sums_from (n + r) rs

abbrev pub ranges_of : List Record → List ℕ
ranges_of = map λ r. r.range

-- two places in one number, and each of them
abbrev pub pair_places : ℕ → ℕ → ℕ
pair_places start end = start + 4294967296 * end

abbrev pub start_of : ℕ → ℕ
start_of n = n % 4294967296

abbrev pub end_of : ℕ → ℕ
end_of n = n / 4294967296

-- the part that two places in one number name, if it lies in so many bytes
abbrev pub PairPartTold : ℕ → ℕ → rust.Option Span → Type 0
PairPartTold places size (Some p) = (p.start ≡ start_of places) × (p.end ≡ end_of places) × (p.start ≤ p.end) × (p.end ≤ size)
PairPartTold places size None = start_of places ≤ end_of places → end_of places ≤ size → ⊥

-- The index of a name table's records has two numbers for each: where it stands among the decoded bytes, and the first index past those that
-- it serves, which is where the next one's begin.
unfoldable pub served_from : List ℕ → ℕ → ℕ
served_from notes zero = 0
served_from notes (suc k) = get_or notes (3 * k + 2) 0

-- the first index that each of the records serves, and then the first that none does
pub record Sums (notes : List ℕ) (count : ℕ) (records : List Record) : Type 0 where
  pub many : length records ≡ count
  pub long : 3 * count ≤ length notes
  pub are : (k : ℕ) → k ≤ count → served_from notes k ≡ get_or (sums_from 0 (ranges_of records)) k 0

-- a record's message from start to end of the decoded bytes
pub record RecordAt (bytes : List ℕ) (start end : ℕ) (r : Record) : Type 0 where
  pub ordered : start ≤ end
  pub inside : end ≤ length bytes
  pub message : Message
  pub cuts : cut (◌from◌ start (part_from start end bytes)) ≡ ok message
  pub is : r ≡ record_of message

-- The index of a name table's records: where each stands among the decoded bytes, and which indices it serves.
pub record IndexOf (bytes notes : List ℕ) (count : ℕ) (records : List Record) : Type 0 where
  pub sums : Sums notes count records
  pub each : (k : ℕ) (r : Record) → get_elem? records k ≡ some r → RecordAt bytes (start_of (get_or notes (3 * k) 0)) (end_of (get_or notes (3 * k) 0)) r

-- Room for the index of so many records; the places among the decoded bytes fit 32 bits.
pub record IndexRoom (bytes : List ℕ) (at : ℕ) (notes : List ℕ) (count : ℕ) : Type 0 where
  pub inside : at ≤ length bytes
  pub short : length bytes < 2 ^ 32
  pub long : 3 * count ≤ length notes

-- how many records are noted, or why none are
abbrev pub RecordIndex : Type 0
RecordIndex = Result ℕ IndexError

-- of the name table m, which begins at `at`: its messages, and what the index is made of them
abbrev pub NotedTold : List ℕ → ℕ → Message → List ℕ → RecordIndex → Type 0
NotedTold bytes at m notes (Ok count) =
    (ms : List Message) × (messages StringTableTypes-record m ≡ ok ms) × IndexOf bytes notes count (map record_of ms)
NotedTold bytes at m notes (Err NoRoom) = IndexRoom bytes at notes (length (bodies StringTableTypes-record m)) → ⊥
NotedTold bytes at m notes (Err (Wire error)) = messages StringTableTypes-record m ≡ wire_refused error

-- and its records
abbrev pub IndexTold : List ℕ → ℕ → Message → List ℕ → RecordIndex → Type 0
IndexTold bytes at m notes (Ok count) =
    (records : List Record) × (records_of m ≡ ok records) × IndexOf bytes notes count records
IndexTold bytes at m notes (Err NoRoom) = IndexRoom bytes at notes (length (bodies StringTableTypes-record m)) → ⊥
IndexTold bytes at m notes (Err (Wire error)) = records_of m ≡ wire_refused error
