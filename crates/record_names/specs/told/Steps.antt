-- What the code's answers about a record's text tell, in the definitions' words.
-- Assumes nothing.
use Rattle.std.specs.Prelude.{◌≡◌, false, List, ℕ, ◌+◌, ◌^◌, ◌≤◌, ◌<◌, length, Some, None}
use Rattle.std.proofs.Math.Option.{Option, none, some}
use Rattle.foundation.specs.Choices.{if_some, map_option}
use Rattle.foundation.specs.Texts.{Text}
use Rattle.messages.specs.told.Asked.{piece_told, PieceInside, index_told}
use Rattle.characters.specs.Characters.{from_utf8}
use Rattle.characters.specs.told.Places.{part_from}
use Rattle.characters.specs.Splits.{substring_of}
use Rattle.names.specs.Records.{text_of, predefined_text, replace_of, operated, stepped}
use Rattle.names.specs.told.Name.{turned, OfBytes, source_text, name_text}
use Rattle.names.specs.told.RecordTold.{record_told}
use Rattle.names.specs.declared.records.Record.{Record}
use Rattle.names.specs.declared.name.Name.{Name}
use Rattle.names.specs.declared.name.Operation.{Operation}
use Rattle.foundation.specs.declared.Span.{Span}
use Rattle.record_names.specs.declared.base.Base.{Base}
use Rattle.std.specs.declared.option.Option as rust

abbrev pub extent_of : List ℕ → rust.Option Span → Option (List ℕ)
extent_of s (Some p) = some (part_from p.start p.end s)
extent_of s None = none

abbrev pub ExtentInside : List ℕ → rust.Option Span → Type 0
ExtentInside s (Some p) = (p.start ≤ p.end) × (p.end ≤ length s)
ExtentInside s None = Unit {0}

-- the part of some bytes that a substring of their text is
pub record SubstringTold (s : List ℕ) (first last : ℕ) (r : rust.Option Span) : Type 0 where
  pub is : substring_of first last (from_utf8 s) ≡ map_option from_utf8 (extent_of s r)
  pub inside : ExtentInside s r

-- a piece of a message that begins at `from` has places
abbrev pub PieceFits : ℕ → rust.Option Span → Type 0
PieceFits from (Some p) = (p.start ≤ p.end) × (from + p.end < 2 ^ 64)
PieceFits from None = Unit {0}

-- the text of a part of a source
abbrev pub base_in : List ℕ → List ℕ → Base → Text
base_in payload d2 b = source_text payload d2 b.source b.part

abbrev pub text_in : List ℕ → List ℕ → rust.Option Base → Option Text
text_in payload d2 (Some b) = some (base_in payload d2 b)
text_in payload d2 None = none

-- what a record's text is made of, whose message begins at `from`: its string or its predefined string
abbrev pub BaseTold : ℕ → rust.Option Span → rust.Option ℕ → rust.Option Base → Type 0
BaseTold from string index r =
    (payload d2 : List ℕ) (end : ℕ) → PieceInside (part_from from end payload) string
    → if_some (piece_told from (part_from from end payload) string) (if_some (index_told index) none predefined_text) (λ p. some (from_utf8 p.bytes))
    ≡ text_in payload d2 r

-- the part of a part that a step gives
abbrev pub StepTold : List ℕ → (Text → Option Text) → Base → rust.Option Base → Type 0
StepTold payload step base r = (d2 : List ℕ) → step (base_in payload d2 base) ≡ text_in payload d2 r

-- the part of a part that is left by something that drops characters
abbrev pub LeftTold : List ℕ → Base → (Text → Text) → Base → Type 0
LeftTold payload base drops r = (d2 : List ℕ) → drops (base_in payload d2 base) ≡ base_in payload d2 r

-- replacement and operation of a text
abbrev pub with_steps : Option (ℕ × ℕ) → ℕ → Text → Option Text
with_steps replaced operation t = map_option (operated operation) (stepped replace_of replaced t)

-- the same of a text from which the operation has dropped what it drops
abbrev pub turned_steps : Option (ℕ × ℕ) → Operation → Text → Option Text
turned_steps replaced operation t = map_option (turned operation) (stepped replace_of replaced t)

-- a name that is made of bytes, not of units, and is no class name yet; its size isn't noted yet
abbrev pub BytesName : Name → Type 0
BytesName n = OfBytes n.source × (n.qualified ≡ false) × (n.from < 2097152) × (n.to < 2097152) × (n.size ≡ 0)

abbrev pub IfBytesName : rust.Option Name → Type 0
IfBytesName (Some n) = BytesName n
IfBytesName None = Unit {0}

pub record StepsTold (base : Base) (replaced : Option (ℕ × ℕ)) (operation : Operation) (r : rust.Option Name) : Type 0 where
  pub bytes : IfBytesName r
  pub is : (payload d2 : List ℕ) → name_text payload d2 r ≡ turned_steps replaced operation (base_in payload d2 base)

-- the name that a record builds, whose message begins at `from`
pub record BuiltTold (payload : List ℕ) (from : ℕ) (read : Record) (r : rust.Option Name) : Type 0 where
  pub bytes : IfBytesName r
  pub is : (d2 : List ℕ) (end : ℕ) → PieceInside (part_from from end payload) read.string
      → name_text payload d2 r ≡ text_of (record_told from (part_from from end payload) read)
