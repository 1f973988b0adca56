-- What a Kotlin type becomes on the JVM (document 01, "Descriptors").
-- Assumes nothing.
use Rattle.std.specs.Prelude.{Bool, true, false, ◌||◌, List, [], ◌∷◌, ◌++◌, ℕ, if◌then◌else◌}
use Rattle.std.proofs.Math.Option.{Option, none, some}
use Prim.Native.String.{String}
use Rattle.foundation.specs.Choices.{if_some, map_option}
use Rattle.foundation.specs.Texts.{Text, ascii, same}
use Rattle.characters.specs.Characters.{utf8}
use Rattle.names.specs.Records.{substituted}
use Rattle.declaration_rows.specs.Declarations.{Types, no_types, and_type, Ty, single}

-- JVMS 4.3.2's base types
pub data Primitive : Type 0 where
  boolean byte char short int long float double : Primitive

abbrev pub letter : Primitive → ℕ
letter boolean = 0x5a  -- Z
letter byte = 0x42  -- B
letter char = 0x43  -- C
letter short = 0x53  -- S
letter int = 0x49  -- I
letter long = 0x4a  -- J
letter float = 0x46  -- F
letter double = 0x44  -- D

-- the class of a boxed one
abbrev pub box : Primitive → String
box boolean = "java/lang/Boolean"
box byte = "java/lang/Byte"
box char = "java/lang/Character"
box short = "java/lang/Short"
box int = "java/lang/Integer"
box long = "java/lang/Long"
box float = "java/lang/Float"
box double = "java/lang/Double"

-- What a Kotlin class name means.
pub data Meaning : Type 0 where
  primitive : Primitive → Meaning
  primitive_array : Primitive → Meaning
  array : Meaning  -- of its first kept argument
  unit : Meaning
  nothing : Meaning  -- has no descriptor (Kotlin's reader prints java/lang/Void)
  mapped : Text → Meaning  -- another class, by its name on the JVM

pub record Entry : Type 0 where
  pub name : Text
  pub meaning : Meaning

abbrev pub ◌means◌ : String → Meaning → Entry
◌means◌ n m = record { name = ascii n; meaning = m }

abbrev pub ◌is◌ : String → String → Entry
◌is◌ n j = ◌means◌ n (mapped (ascii j))

-- Departure: classes that the Rust's `class_name` doesn't list are unmapped.
abbrev pub listed : List Entry
listed =
    ◌means◌ "kotlin/Boolean" (primitive boolean)
    ∷ ◌means◌ "kotlin/Byte" (primitive byte)
    ∷ ◌means◌ "kotlin/Char" (primitive char)
    ∷ ◌means◌ "kotlin/Short" (primitive short)
    ∷ ◌means◌ "kotlin/Int" (primitive int)
    ∷ ◌means◌ "kotlin/Long" (primitive long)
    ∷ ◌means◌ "kotlin/Float" (primitive float)
    ∷ ◌means◌ "kotlin/Double" (primitive double)
    ∷ ◌means◌ "kotlin/BooleanArray" (primitive_array boolean)
    ∷ ◌means◌ "kotlin/ByteArray" (primitive_array byte)
    ∷ ◌means◌ "kotlin/CharArray" (primitive_array char)
    ∷ ◌means◌ "kotlin/ShortArray" (primitive_array short)
    ∷ ◌means◌ "kotlin/IntArray" (primitive_array int)
    ∷ ◌means◌ "kotlin/LongArray" (primitive_array long)
    ∷ ◌means◌ "kotlin/FloatArray" (primitive_array float)
    ∷ ◌means◌ "kotlin/DoubleArray" (primitive_array double)
    ∷ ◌means◌ "kotlin/Array" array
    ∷ ◌means◌ "kotlin/Unit" unit
    ∷ ◌means◌ "kotlin/Nothing" nothing
    ∷ ◌is◌ "kotlin/Any" "java/lang/Object"
    ∷ ◌is◌ "kotlin/String" "java/lang/String"
    ∷ ◌is◌ "kotlin/CharSequence" "java/lang/CharSequence"
    ∷ ◌is◌ "kotlin/Throwable" "java/lang/Throwable"
    ∷ ◌is◌ "kotlin/Number" "java/lang/Number"
    ∷ ◌is◌ "kotlin/Comparable" "java/lang/Comparable"
    ∷ ◌is◌ "kotlin/Enum" "java/lang/Enum"
    ∷ ◌is◌ "kotlin/Annotation" "java/lang/annotation/Annotation"
    ∷ ◌is◌ "kotlin/collections/Iterable" "java/lang/Iterable"
    ∷ ◌is◌ "kotlin/collections/Collection" "java/util/Collection"
    ∷ ◌is◌ "kotlin/collections/MutableCollection" "java/util/Collection"
    ∷ ◌is◌ "kotlin/collections/List" "java/util/List"
    ∷ ◌is◌ "kotlin/collections/MutableList" "java/util/List"
    ∷ ◌is◌ "kotlin/collections/Set" "java/util/Set"
    ∷ ◌is◌ "kotlin/collections/MutableSet" "java/util/Set"
    ∷ ◌is◌ "kotlin/collections/Map" "java/util/Map"
    ∷ ◌is◌ "kotlin/collections/MutableMap" "java/util/Map"
    ∷ []

-- Departure: all dots become slashes, so that nested classes have / for $.
abbrev pub slashed : Text → Text
slashed = substituted 0x2e 0x2f

-- what the table says of a name; a class that isn't listed is itself
unfoldable pub look_up : Text → List Entry → Meaning
look_up n [] = mapped n
look_up n (e ∷ es) = let later = look_up n es in if same n e.name then e.meaning else later

abbrev pub meaning_of : Text → Meaning
meaning_of name = look_up (slashed name) listed

-- An erased type: JVMS 4.3.2's field types.
pub data Erased : Type 0 where
  base : Primitive → Erased
  class : Text → Erased
  array_of : Erased → Erased

abbrev pub kotlin_unit : Text
kotlin_unit = ascii "kotlin/Unit"

-- a type's erasure by its meaning; boxed: nullable or an array's element; inner: its first kept argument as an element
abbrev pub erased_as : Bool → Option Erased → Meaning → Option Erased
erased_as boxed inner (primitive p) = some (if boxed then class (ascii (box p)) else base p)
erased_as boxed inner (primitive_array p) = some (array_of (base p))
erased_as boxed inner array = map_option array_of inner
erased_as boxed inner unit = some (class kotlin_unit)
erased_as boxed inner nothing = none
erased_as boxed inner (mapped n) = some (class n)

-- The erasure of the first of some types; element: it is an array's. A star has no name, and so none; other projections don't matter.
unfoldable pub first_erased : Bool → Types → Option Erased
first_erased element no_types = none
first_erased element (and_type projection nullable name arguments after) =
    if_some name none λ n. erased_as (nullable || element) (first_erased true arguments) (meaning_of n)

-- as a parameter
unfoldable pub erased : Ty → Option Erased
erased t = first_erased false (single t)

-- A return descriptor: JVMS 4.3.3.
pub data Returned : Type 0 where
  void : Returned
  of_type : Erased → Returned

abbrev pub returned_as : Meaning → Option Erased → Option Returned
returned_as unit e = some void
returned_as (primitive p) e = map_option of_type e
returned_as (primitive_array p) e = map_option of_type e
returned_as array e = map_option of_type e
returned_as nothing e = map_option of_type e
returned_as (mapped n) e = map_option of_type e

-- Unit returned is V. Departure: Unit? returned is V too.
unfoldable pub erased_return : Ty → Option Returned
erased_return t = if_some t.name none λ n. returned_as (meaning_of n) (erased t)

-- The text printed, in UTF-8: a letter, L..; or [ and the element.
unfoldable pub print : Erased → List ℕ
print (base p) = letter p ∷ []
print (class n) = 0x4c ∷ (utf8 n ++ (0x3b ∷ []))
print (array_of e) = 0x5b ∷ print e

abbrev pub print_returned : Returned → List ℕ
print_returned void = 0x56 ∷ []
print_returned (of_type e) = print e
