-- What the code's answers tell, in the definitions' words; primitives, classes and fixed parts by their numbers.
-- Assumes nothing.
use Rattle.std.specs.Prelude.{◌≡◌, Bool, true, false, ◌||◌, List, [], ◌∷◌, ◌++◌, map, ℕ, ◌+◌, ◌<◌, length, get_or}
use Rattle.std.specs.Prelude as std
use Rattle.std.specs.Prelude.{Some, None}
use Rattle.std.specs.Borrow.{Bor}
use Rattle.std.proofs.Math.Option.{Option, none, some}
use Prim.Native.String.{String}
use Rattle.std.proofs.lemmas.List.Edits.{sets}
use Rattle.foundation.specs.Choices.{map_option}
use Rattle.foundation.specs.Texts.{Text, ascii}
use Rattle.characters.specs.Characters.{utf8}
use Rattle.characters.specs.told.CharactersTold.{Characters}
use Rattle.erasure.specs.Erasure as erasure
use Rattle.erasure.specs.Erasure.{
  Primitive,
  boolean,
  byte,
  char,
  short,
  int,
  long,
  float,
  double,
  primitive,
  primitive_array,
  array,
  unit,
  nothing,
  mapped,
  box,
  kotlin_unit,
  Entry,
  ◌means◌,
  listed,
  look_up,
  Erased,
  base,
  class,
  array_of,
  erased_as,
  Returned,
  void,
  of_type,
  returned_as,
  print_returned,
}
use Rattle.erasure.specs.declared.Primitive as code
use Rattle.erasure.specs.declared.Primitive.TheVariants as of_code
use Rattle.erasure.specs.declared.Class.{Class}
use Rattle.erasure.specs.declared.Class.TheVariants as classes
use Rattle.erasure.specs.declared.Part.{Part}
use Rattle.erasure.specs.declared.Part.TheVariants as parts
use Rattle.erasure.specs.declared.Meaning as answer
use Rattle.erasure.specs.declared.Meaning.TheVariants as means
use Rattle.erasure.specs.declared.Position.{Position}
use Rattle.erasure.specs.declared.Position.TheVariants.{Parameter, Element, Return}
use Rattle.erasure.specs.declared.Printed.{Printed}
use Rattle.erasure.specs.declared.Printed.TheVariants as prints

abbrev pub primitives : List Primitive
primitives = boolean ∷ byte ∷ char ∷ short ∷ int ∷ long ∷ float ∷ double ∷ []

-- A primitive, and a class by its name on the JVM.
abbrev pub primitive_told : code.Primitive → Primitive
primitive_told of_code.Boolean = boolean
primitive_told of_code.Byte = byte
primitive_told of_code.Char = char
primitive_told of_code.Short = short
primitive_told of_code.Int = int
primitive_told of_code.Long = long
primitive_told of_code.Float = float
primitive_told of_code.Double = double

abbrev pub class_told : Class → Text
class_told (classes.Boxed p) = ascii (box (primitive_told p))
class_told classes.Object = ascii "java/lang/Object"
class_told classes.String = ascii "java/lang/String"
class_told classes.CharSequence = ascii "java/lang/CharSequence"
class_told classes.Throwable = ascii "java/lang/Throwable"
class_told classes.Number = ascii "java/lang/Number"
class_told classes.Comparable = ascii "java/lang/Comparable"
class_told classes.Enum = ascii "java/lang/Enum"
class_told classes.Annotation = ascii "java/lang/annotation/Annotation"
class_told classes.Iterable = ascii "java/lang/Iterable"
class_told classes.Collection = ascii "java/util/Collection"
class_told classes.List = ascii "java/util/List"
class_told classes.Set = ascii "java/util/Set"
class_told classes.Map = ascii "java/util/Map"
class_told classes.Unit = kotlin_unit
class_told classes.Continuation = ascii "kotlin/coroutines/Continuation"

-- the classes that are printed whatever the input: the boxes, the classes of the table, Unit, and a suspending function's
abbrev pub fixed_classes : List String
fixed_classes =
    "java/lang/Boolean"
    ∷ "java/lang/Byte"
    ∷ "java/lang/Character"
    ∷ "java/lang/Short"
    ∷ "java/lang/Integer"
    ∷ "java/lang/Long"
    ∷ "java/lang/Float"
    ∷ "java/lang/Double"
    ∷ "java/lang/Object"
    ∷ "java/lang/String"
    ∷ "java/lang/CharSequence"
    ∷ "java/lang/Throwable"
    ∷ "java/lang/Number"
    ∷ "java/lang/Comparable"
    ∷ "java/lang/Enum"
    ∷ "java/lang/annotation/Annotation"
    ∷ "java/lang/Iterable"
    ∷ "java/util/Collection"
    ∷ "java/util/List"
    ∷ "java/util/Set"
    ∷ "java/util/Map"
    ∷ "kotlin/Unit"
    ∷ "kotlin/coroutines/Continuation"
    ∷ []

-- A primitive and a class by their numbers, past the end the last.
unfoldable pub primitive_at : ℕ → Primitive
primitive_at k = get_or primitives k double

unfoldable pub class_at : ℕ → Text
class_at k = ascii (get_or fixed_classes k "kotlin/coroutines/Continuation")

-- What the code says that a class name n means.
abbrev pub meaning_told : Text → answer.Meaning → erasure.Meaning
meaning_told n (means.Primitive p) = primitive (primitive_told p)
meaning_told n (means.PrimitiveArray p) = primitive_array (primitive_told p)
meaning_told n means.Array = array
meaning_told n means.Unit = unit
meaning_told n means.Nothing = nothing
meaning_told n (means.Class k) = mapped (class_told k)
meaning_told n means.Other = mapped n

-- Is a class one of the table's? Any meaning but a class is.
abbrev pub of_table : answer.Meaning → Bool
of_table (means.Class (classes.Boxed p)) = false
of_table (means.Class classes.Object) = true
of_table (means.Class classes.String) = true
of_table (means.Class classes.CharSequence) = true
of_table (means.Class classes.Throwable) = true
of_table (means.Class classes.Number) = true
of_table (means.Class classes.Comparable) = true
of_table (means.Class classes.Enum) = true
of_table (means.Class classes.Annotation) = true
of_table (means.Class classes.Iterable) = true
of_table (means.Class classes.Collection) = true
of_table (means.Class classes.List) = true
of_table (means.Class classes.Set) = true
of_table (means.Class classes.Map) = true
of_table (means.Class classes.Unit) = false
of_table (means.Class classes.Continuation) = false
of_table (means.Primitive p) = true
of_table (means.PrimitiveArray p) = true
of_table means.Array = true
of_table means.Unit = true
of_table means.Nothing = true
of_table means.Other = true

-- The answer is right of every name that these bytes write.
abbrev pub Means : List ℕ → answer.Meaning → Type 0
Means bytes r = (n : Text) → Characters n → utf8 n ≡ bytes → look_up n listed ≡ meaning_told n r

-- A row of the table, the bytes of its name, and what it means.
unfoldable pub row_at : ℕ → Entry
row_at k = get_or listed k (◌means◌ "" nothing)

unfoldable pub listed_name : ℕ → List ℕ
listed_name k = utf8 (row_at k).name

unfoldable pub listed_meaning : ℕ → erasure.Meaning
listed_meaning k = (row_at k).meaning

-- If these bytes are a row's name, it is this row; without a row they are no name.
abbrev pub CanBe : List ℕ → std.Option ℕ → Type 0
CanBe bytes (Some r) = (r < 36) × ((k : ℕ) → k < 36 → bytes ≡ listed_name k → r ≡ k)
CanBe bytes None = (k : ℕ) → k < 36 → bytes ≡ listed_name k → ⊥

-- A row of the code's table has this name and this meaning.
pub record IsRow (k : ℕ) (r : Bor (List ℕ) × answer.Meaning) : Type 0 where
  pub name : r.0.now ≡ listed_name k
  pub meaning : (n : Text) → listed_meaning k ≡ meaning_told n r.1
  pub table : of_table r.1 ≡ true

-- The erased parts that are printed whatever the input.
abbrev pub fixed_told : Part → Returned
fixed_told (parts.Letter p) = of_type (base (primitive_told p))
fixed_told (parts.LetterArray p) = of_type (array_of (base (primitive_told p)))
fixed_told (parts.Boxed p) = of_type (class (ascii (box (primitive_told p))))
fixed_told (parts.Class k) = of_type (class (class_told k))
fixed_told parts.Unit = of_type (class kotlin_unit)
fixed_told parts.Continuation = of_type (class (ascii "kotlin/coroutines/Continuation"))
fixed_told parts.Void = void

-- The same by number: the letters, arrays of them, the fixed classes, and V.
unfoldable pub fixed_part : ℕ → Returned
fixed_part k =
    let letters = map (λ p. of_type (base p)) primitives in
    let arrays = map (λ p. of_type (array_of (base p))) primitives in
    let classes = map (λ c. of_type (class (ascii c))) fixed_classes in
    get_or (letters ++ (arrays ++ classes)) k void

-- A text of r bytes was written into an area S from a place on, what stands past the end left out.
pub record PutSized (text : List ℕ) (at r : ℕ) (S S' : List ℕ) : Type 0 where
  pub size : r ≡ length text
  pub area : S' ≡ sets S at text

abbrev pub PutPart : Part → ℕ → ℕ → List ℕ → List ℕ → Type 0
PutPart k = PutSized (print_returned (fixed_told k))

-- What the code says is printed of a type: its class is named n, and inner is its first kept argument as an element.
abbrev pub printed_told : Text → Option Erased → std.Option Printed → Option Returned
printed_told n inner (Some (prints.Fixed k)) = some (fixed_told k)
printed_told n inner (Some prints.ThroughArray) = map_option (λ e. of_type (array_of e)) inner
printed_told n inner (Some prints.ClassItself) = some (of_type (class n))
printed_told n inner None = none

-- The erasure of a type at its position, by its meaning.
abbrev pub part_at : Position → Bool → Option Erased → erasure.Meaning → Option Returned
part_at Parameter nullable inner m = map_option of_type (erased_as (nullable || false) inner m)
part_at Element nullable inner m = map_option of_type (erased_as (nullable || true) inner m)
part_at Return nullable inner m = returned_as m (erased_as (nullable || false) inner m)

-- The answer is right of a type with this meaning, whatever its name and its arguments.
abbrev pub PrintsAs : answer.Meaning → Bool → Position → std.Option Printed → Type 0
PrintsAs m nullable position r = (n : Text) (inner : Option Erased) → part_at position nullable inner (meaning_told n m) ≡ printed_told n inner r

-- whether a primitive is boxed there
abbrev pub boxed_at : Position → Bool → Bool
boxed_at Parameter nullable = nullable || false
boxed_at Element nullable = nullable || true
boxed_at Return nullable = nullable || false
