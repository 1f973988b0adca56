-- What the code does with a name, in the definitions' words.
-- Assumes nothing.
use Rattle.std.specs.Prelude as Std
use Rattle.std.specs.Prelude.{Some, None, Bool, true, false, ◌||◌, ◌≡◌, List, [], map, ℕ, ◌+◌, leb, length, if◌then◌else◌}
use Rattle.std.proofs.Math.Option.{Option, none, some}
use Rattle.std.proofs.lemmas.List.Edits.{sets}
use Rattle.foundation.specs.Texts.{Text}
use Rattle.characters.specs.Characters.{width, from_utf8, utf8}
use Rattle.characters.specs.told.Places.{part_from}
use Rattle.characters.specs.told.Plain.{instead, with_dots, slashed_character}
use Rattle.characters.specs.told.CharactersTold.{Character}
use Rattle.names.specs.told.Name.{predefined_list, sized, named_text}
use Rattle.names.specs.Records.{substituted}
use Rattle.names.specs.declared.name.Name.{Name}
use Rattle.names.specs.declared.name.Source.{Source}
use Rattle.names.specs.declared.name.Source.TheVariants.{Payload, Predefined, D2}
use Rattle.names.specs.declared.name.Operation.{Operation}
use Rattle.names.specs.declared.name.Operation.TheVariants.{Nothing, InternalToClassId, DescToClassId}
use Rattle.names.specs.declared.name.Change.{Change}
use Rattle.foundation.specs.declared.Read.{Read}
use Rattle.foundation.specs.declared.Span.{Span}

-- the predefined string that is a part of the list
abbrev pub listed_text : Std.Option Span → Option Text
listed_text (Some part) = some (from_utf8 (part_from part.start part.end predefined_list))
listed_text None = none

-- the bytes that a part is taken of, if not the units of d2
abbrev pub base_of : Source → List ℕ → List ℕ → List ℕ
base_of Payload payload list = payload
base_of Predefined payload list = list
base_of D2 payload list = payload

-- Does an operation turn $ alone? Or / and $?
abbrev pub turns_dollars : Operation → Bool
turns_dollars Nothing = false
turns_dollars InternalToClassId = false
turns_dollars DescToClassId = true

abbrev pub turns_both : Operation → Bool
turns_both Nothing = false
turns_both InternalToClassId = true
turns_both DescToClassId = false

-- what a name's steps do to each character, with slashes for dots if they are asked for
abbrev pub change_of : Std.Option Name → Bool → Change
change_of (Some n) slashes = record {
  from = n.from;
  to = n.to;
  dollars = turns_dollars n.operation;
  dots = turns_both n.operation || n.qualified;
  slashes = slashes;
}
change_of None slashes = record { from = 0; to = 0; dollars = false; dots = false; slashes = slashes }

abbrev pub with_dollars : Bool → ℕ → ℕ
with_dollars dollars c = if dollars then instead 0x24 0x2e c else c

unfoldable pub changed : Change → ℕ → ℕ
changed h c = slashed_character h.slashes (with_dots h.dots (with_dollars h.dollars (instead h.from h.to c)))

-- a change after which a character is one of those that become dots or slashes, or itself
pub record NoneReplaced (h : Change) : Type 0 where
  pub same : h.from ≡ h.to
  pub dollars : h.dollars ≡ false

-- a text, with slashes for dots if they are asked for
abbrev pub slashed_text : Bool → Text → Text
slashed_text slashes t = if slashes then substituted 0x2e 0x2f t else t

-- a text in UTF-8, each character changed
abbrev pub changed_bytes : Change → Text → List ℕ
changed_bytes h t = utf8 (map (changed h) t)

-- a change after which each character takes as many bytes as before
abbrev pub KeepsWidth : Change → Type 0
KeepsWidth h = (c : ℕ) → width (changed h c) ≡ width c

-- the same of a text whose size is noted
abbrev pub sized_bytes : ℕ → Change → Text → List ℕ
sized_bytes size h t = utf8 (sized size (map (changed h) t))

-- What is written next of a text that is made to take `left` bytes more: of a character, it or a zero where it takes too much; at the end
-- a zero. After a zero the text has ended.
abbrev pub fitted_of : Change → ℕ → ℕ → Character → Read ℕ
fitted_of h left end (Some c) =
    if leb (width (changed h c.value)) left then record { value = changed h c.value; next = c.next } else record { value = 0; next = end }
fitted_of h left end None = record { value = 0; next = end }

-- a name's text in UTF-8, with slashes for dots if they are asked for; nothing where there is no name
unfoldable pub name_bytes : List ℕ → List ℕ → Std.Option Name → Bool → List ℕ
name_bytes payload d2 (Some n) slashes = utf8 (slashed_text slashes (named_text payload d2 n))
name_bytes payload d2 None slashes = []

-- Bytes were written at a place of an area, and `next` is the place after them.
pub record PutText (bytes : List ℕ) (at next : ℕ) (before after : List ℕ) : Type 0 where
  pub place : next ≡ at + length bytes
  pub written : after ≡ sets before at bytes
