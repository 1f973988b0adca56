-- What is told of one record: its name, its class name, and the words that say both.
-- Assumes nothing.
use Rattle.std.specs.Prelude.{◌≡◌, true, false, List, ℕ, Option, Some, None}
use Rattle.foundation.specs.Results.{ok, ◌from◌}
use Rattle.wire.specs.Wire.{Message, cut}
use Rattle.characters.specs.told.Places.{part_from}
use Rattle.names.specs.Records.{Record, record_of, decides, text_of, predefined_text}
use Rattle.names.specs.told.Name.{name_text}
use Rattle.names.specs.told.Index.{RecordAt}
use Rattle.names.specs.declared.name.Name.{Name}
use Rattle.record_names.specs.told.Steps.{IfBytesName}
use Rattle.record_names.specs.told.Note.{noted, noted_class}
use Rattle.record_names.specs.told.ClassNames.{class_text}
use Rattle.record_names.specs.declared.note.Words.{Words}

-- what a record builds, if it decides: a name of bytes, or none
abbrev pub DecidedBytes : Option (Option Name) → Type 0
DecidedBytes (Some name) = IfBytesName name
DecidedBytes None = Unit {0}

-- a predefined string as a name
pub record PredefinedTold (index : ℕ) (r : Option Name) : Type 0 where
  pub bytes : IfBytesName r
  pub is : (payload units : List ℕ) → name_text payload units r ≡ predefined_text index

-- by a record: whether it decides, and its name
abbrev pub NamedIs : List ℕ → List ℕ → Record → Option (Option Name) → Type 0
NamedIs bytes units r (Some name) = (decides r ≡ true) × (text_of r ≡ name_text bytes units name)
NamedIs bytes units r None = decides r ≡ false

-- by the record whose message stands from start to end
pub record NamedTold (bytes : List ℕ) (start end : ℕ) (r : Option (Option Name)) : Type 0 where
  pub made : DecidedBytes r
  pub is : (m : Message) → cut (◌from◌ start (part_from start end bytes)) ≡ ok m → (units : List ℕ) → NamedIs bytes units (record_of m) r

-- the same of its class name
abbrev pub ClassIs : List ℕ → List ℕ → Record → Option (Option Name) → Type 0
ClassIs bytes units r (Some name) = (decides r ≡ true) × (class_text (text_of r) ≡ name_text bytes units name)
ClassIs bytes units r None = decides r ≡ false

-- What is noted of a record: whether it decides, its name and its class name, each with the size of its text. Nothing of its message is
-- read again.
pub record NoteTold (bytes : List ℕ) (r : Record) (place steps : ℕ) : Type 0 where
  pub is : (units : List ℕ) → NamedIs bytes units r (noted place steps)
  pub class : (units : List ℕ) → ClassIs bytes units r (noted_class place steps)

-- the words say of a record what the answer says
abbrev pub WordsFor : List ℕ → Option (Option Name) → Words → Type 0
WordsFor bytes d w = (r : Record) → ((units : List ℕ) → NamedIs bytes units r d) → NoteTold bytes r w.place w.steps

-- the words of the record whose message stands from start to end
abbrev pub RecordWords : List ℕ → ℕ → ℕ → Words → Type 0
RecordWords bytes start end w = (r : Record) → RecordAt bytes start end r → NoteTold bytes r w.place w.steps
