-- A record of the name table: jvm_metadata.proto's StringTableTypes.Record, and the text that it builds.
-- Assumes nothing.
use Rattle.std.specs.Prelude.{Bool, ◌&&◌, ◌||◌, List, [], ◌∷◌, map, ℕ, zero, suc, ◌%◌, ◌^◌, eqb, if◌then◌else◌}
use Rattle.std.proofs.Math.Option.{Option, none, some}
use Prim.Native.String.{String}
use Rattle.std.proofs.Math.ListN.{get_elem?}
use Rattle.foundation.specs.Choices.{if_some, map_option, is_some}
use Rattle.foundation.specs.Results.{Res, ok, refused, Part}
use Rattle.foundation.specs.Texts.{Text, ascii}
use Rattle.fields.specs.Fields.{Record-range, Record-predefined_index, Record-operation, Record-substring_index, Record-replace_char, Record-string}
use Rattle.wire.specs.Wire.{Message}
use Rattle.wire.specs.Messages.{index, varint_of, bytes_of, varints}
use Rattle.characters.specs.Characters.{is_scalar, from_utf8}
use Rattle.characters.specs.Splits.{substring_of}

pub record Record : Type 0 where
  pub range : ℕ  -- how many consecutive indices it serves
  pub string : Option Part
  pub predefined : Option ℕ
  pub operation : ℕ  -- departure: all 64 bits
  pub substring : Option (ℕ × ℕ)
  pub replaced : Option (ℕ × ℕ)

-- Departure: range 0 counts as 1, and so does no range.
abbrev pub served : Option ℕ → ℕ
served none = 1
served (some zero) = 1
served (some (suc n)) = suc n

-- A step's two numbers, mod 2^32. Errors in its values, or fewer than two of them, mean that the step isn't taken (an error in any
-- other field that is looked into refuses).
abbrev pub two_of : Res (List ℕ) → Option (ℕ × ℕ)
two_of (refused c p) = none
two_of (ok []) = none
two_of (ok (a ∷ [])) = none
two_of (ok (a ∷ b ∷ ns)) = some (a % 2 ^ 32, b % 2 ^ 32)

unfoldable pub record_of : Message → Record
record_of m = record {
  range = served (index Record-range m);
  string = bytes_of Record-string m;
  predefined = index Record-predefined_index m;
  operation = if_some (varint_of Record-operation m) 0 λ n. n;
  substring = two_of (varints Record-substring_index m);
  replaced = two_of (varints Record-replace_char m);
}

-- The names that a record may hold by their index; the order is part of the format (Kotlin's JvmNameResolver).
abbrev pub predefined_strings : List String
predefined_strings =
    "kotlin/Any" ∷ "kotlin/Nothing" ∷ "kotlin/Unit" ∷ "kotlin/Throwable" ∷ "kotlin/Number" ∷ "kotlin/Byte" ∷ "kotlin/Double" ∷ "kotlin/Float"
    ∷ "kotlin/Int" ∷ "kotlin/Long" ∷ "kotlin/Short" ∷ "kotlin/Boolean" ∷ "kotlin/Char" ∷ "kotlin/CharSequence" ∷ "kotlin/String"
    ∷ "kotlin/Comparable" ∷ "kotlin/Enum" ∷ "kotlin/Array" ∷ "kotlin/ByteArray" ∷ "kotlin/DoubleArray" ∷ "kotlin/FloatArray"
    ∷ "kotlin/IntArray" ∷ "kotlin/LongArray" ∷ "kotlin/ShortArray" ∷ "kotlin/BooleanArray" ∷ "kotlin/CharArray" ∷ "kotlin/Cloneable"
    ∷ "kotlin/Annotation" ∷ "kotlin/collections/Iterable" ∷ "kotlin/collections/MutableIterable" ∷ "kotlin/collections/Collection"
    ∷ "kotlin/collections/MutableCollection" ∷ "kotlin/collections/List" ∷ "kotlin/collections/MutableList" ∷ "kotlin/collections/Set"
    ∷ "kotlin/collections/MutableSet" ∷ "kotlin/collections/Map" ∷ "kotlin/collections/MutableMap" ∷ "kotlin/collections/Map.Entry"
    ∷ "kotlin/collections/MutableMap.MutableEntry" ∷ "kotlin/collections/Iterator" ∷ "kotlin/collections/MutableIterator"
    ∷ "kotlin/collections/ListIterator" ∷ "kotlin/collections/MutableListIterator" ∷ []

unfoldable pub predefined_text : ℕ → Option Text
predefined_text i = map_option ascii (get_elem? predefined_strings i)

-- A record with a string or a predefined index decides its indices, even if its text can't be built.
abbrev pub decides : Record → Bool
decides r = is_some r.string || is_some r.predefined

-- a part of the payload, bad UTF-8 replaced, or of the predefined list
unfoldable pub base_text : Record → Option Text
base_text r = if_some r.string (if_some r.predefined none predefined_text) λ p. some (from_utf8 p.bytes)

abbrev pub substituted : ℕ → ℕ → Text → Text
substituted from to = map λ c. if eqb c from then to else c

-- every occurrence of one character; no text if either number is no character
unfoldable pub replace_of : ℕ → ℕ → Text → Option Text
replace_of from to t = if is_scalar from && is_scalar to then some (substituted from to t) else none

abbrev pub dotted : Text → Text
dotted t = substituted 0x2f 0x2e (substituted 0x24 0x2e t)

-- $ alone
abbrev pub dollars_dotted : Text → Text
dollars_dotted = substituted 0x24 0x2e

unfoldable pub all_but_last : Text → Text
all_but_last [] = []
all_but_last (a ∷ []) = []
all_but_last (a ∷ b ∷ t) = a ∷ all_but_last (b ∷ t)

-- a text of two characters or more without its first and its last; a shorter one as it is
unfoldable pub without_ends : Text → Text
without_ends [] = []
without_ends (a ∷ []) = a ∷ []
without_ends (a ∷ b ∷ t) = all_but_last (b ∷ t)

abbrev pub INTERNAL_TO_CLASS_ID : ℕ
INTERNAL_TO_CLASS_ID = 1

abbrev pub DESC_TO_CLASS_ID : ℕ
DESC_TO_CLASS_ID = 2

-- jvm_metadata.proto, Record.Operation: INTERNAL_TO_CLASS_ID is replaceAll('$', '.'), DESC_TO_CLASS_ID is
-- substring(1, length - 1).replaceAll('$', '.'), so that Ljava/util/Map$Entry; becomes java/util/Map.Entry. Departure: operation 1 turns / into
-- a dot too.
unfoldable pub operated : ℕ → Text → Text
operated op t =
    if eqb op INTERNAL_TO_CLASS_ID then dotted t else if eqb op DESC_TO_CLASS_ID then dollars_dotted (without_ends t) else t

abbrev pub stepped : (ℕ → ℕ → Text → Option Text) → Option (ℕ × ℕ) → Text → Option Text
stepped f none t = some t
stepped f (some n) t = f n.0 n.1 t

-- the record's text: base, substring, replacement, operation, in this order
unfoldable pub text_of : Record → Option Text
text_of r =
    if_some (base_text r) none λ base.
    if_some (stepped substring_of r.substring base) none λ part.
    map_option (operated r.operation) (stepped replace_of r.replaced part)
