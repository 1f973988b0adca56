-- What the code's Name means: a part of the payload, of the predefined list or of d2, and what is done to its characters.
-- Assumes nothing.
use Rattle.std.specs.Prelude.{Bool, false, List, [], ◌∷◌, map, ℕ, ◌-◌, eqb, leb, replicate, if◌then◌else◌, Some, None}
use Rattle.std.proofs.Math.Option.{Option, none, some}
use Rattle.std.specs.declared.option.Option as rust
use Rattle.foundation.specs.Choices.{concat}
use Rattle.foundation.specs.Texts.{Text, ascii}
use Rattle.foundation.specs.declared.Span.{Span}
use Rattle.characters.specs.Characters.{width, between, from_utf8, from_utf16}
use Rattle.characters.specs.told.Places.{part_from}
use Rattle.names.specs.Records.{predefined_strings, substituted, dotted, dollars_dotted, without_ends, INTERNAL_TO_CLASS_ID, DESC_TO_CLASS_ID}
use Rattle.names.specs.declared.name.Name.{Name}
use Rattle.names.specs.declared.name.Source.{Source}
use Rattle.names.specs.declared.name.Source.TheVariants.{Payload, Predefined, D2}
use Rattle.names.specs.declared.name.Operation.{Operation}
use Rattle.names.specs.declared.name.Operation.TheVariants.{Nothing, InternalToClassId, DescToClassId}

-- the predefined strings one after the other
unfoldable pub predefined_list : List ℕ
predefined_list = concat (map ascii predefined_strings)

-- the characters of a part of a source
unfoldable pub source_text : List ℕ → List ℕ → Source → Span → Text
source_text payload d2 Payload p = from_utf8 (part_from p.start p.end payload)
source_text payload d2 Predefined p = from_utf8 (part_from p.start p.end predefined_list)
source_text payload d2 D2 p = from_utf16 (part_from p.start p.end d2)

-- A source by its number. Of a name whose number is neither 1, 2 nor 3 there is none: it is absent.
abbrev pub source_numbered : ℕ → rust.Option Source
source_numbered n = if eqb n 1 then Some Payload else if eqb n 2 then Some Predefined else if eqb n 3 then Some D2 else None

-- is it made of bytes, not of units?
abbrev pub OfBytes : Source → Type 0
OfBytes Payload = Unit {0}
OfBytes Predefined = Unit {0}
OfBytes D2 = ⊥

-- A text made to take n bytes of UTF-8: its characters as long as there is room for the next, then zeros. A text of n bytes stays as it is.
unfoldable pub fitted : ℕ → Text → Text
fitted n [] = replicate n 0
fitted n (c ∷ cs) =
    let more = c ∷ fitted (n - width c) cs in
    if leb (width c) n then more else replicate n 0

-- Is the size of a name's text noted? 0 says that it is not. No text of 32,768 bytes or units takes more than 131,072 bytes.
abbrev pub is_measured : ℕ → Bool
is_measured size = between 1 131072 size

-- A text by the size that is noted of it. Where that is its own, as in all notes of a name table, it is the text itself; so a name says the
-- same whether its text is walked or only its size is taken.
abbrev pub sized : ℕ → Text → Text
sized size t = if is_measured size then fitted size t else t

-- A record's operation by its number, and its number. One that is neither 1 nor 2 does nothing.
abbrev pub operation_of : ℕ → Operation
operation_of op = if eqb op INTERNAL_TO_CLASS_ID then InternalToClassId else if eqb op DESC_TO_CLASS_ID then DescToClassId else Nothing

abbrev pub operation_number : Operation → ℕ
operation_number Nothing = 0
operation_number InternalToClassId = INTERNAL_TO_CLASS_ID
operation_number DescToClassId = DESC_TO_CLASS_ID

-- What a name's operation does to its characters. The two that operation 2 drops from a record's text are no part of its name.
unfoldable pub turned : Operation → Text → Text
turned Nothing t = t
turned InternalToClassId t = dotted t
turned DescToClassId t = dollars_dotted t

-- what operation 2 drops from a text before its $ are turned
abbrev pub dropped : Operation → Text → Text
dropped Nothing t = t
dropped InternalToClassId t = t
dropped DescToClassId t = without_ends t

-- replacement, operation, and dots in a class name
abbrev pub stepped_by : Name → Text → Text
stepped_by n t =
    let it = turned n.operation (sized n.size (substituted n.from n.to t)) in
    if n.qualified then dotted it else it

-- the text of a name
unfoldable pub named_text : List ℕ → List ℕ → Name → Text
named_text payload d2 n = stepped_by n (source_text payload d2 n.source n.part)

-- the same of a name that may be absent
abbrev pub name_text : List ℕ → List ℕ → rust.Option Name → Option Text
name_text payload d2 None = none
name_text payload d2 (Some n) = some (named_text payload d2 n)

-- a part of a source, with no step
abbrev pub plain : Source → Span → Name
plain source part = record { source = source; part = part; from = 0; to = 0; operation = Nothing; qualified = false; size = 0 }
