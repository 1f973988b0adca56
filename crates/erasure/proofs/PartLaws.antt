-- Laws of the fixed parts and of what is printed of a type.
-- Assumes nothing.
use mathlib.Core.Path.{◌≡◌, refl, sym, ap, ◌∙◌, subst}
use mathlib.Core.Bool.{Bool, true, false}
use mathlib.Core.List.{List, [], ◌∷◌, ◌++◌, map}
use Rattle.std.specs.Prelude as std
use Rattle.std.specs.Prelude.{Some, None}
use mathlib.Core.Option.{Option, some}
use Prim.Native.Nat.{ℕ, ◌+◌, ◌-◌, ◌≤◌, ◌<◌, min}
use native.Mathlib.Omega.{arith}
use borrow.Author.Tests.{leb-true}
use lib.Dec.{leb}
use lib.ListN.{length, set, get_or-eq_default}
use Rattle.foundation.specs.Choices.{map_option}
use Rattle.foundation.specs.Texts.{Text, ascii}
use Rattle.characters.specs.Characters.{utf8, utf8_of}
use Rattle.characters.specs.told.CharactersTold.{Characters}
use Rattle.characters.proofs.TestLaws.{below}
use Rattle.foundation.proofs.EveryLaws.{map_twice}
use Rattle.declaration_rows.specs.Declarations.{Types, and_type, Ty}
use Rattle.erasure.specs.Erasure as erasure
use Rattle.erasure.specs.Erasure.{
  Primitive,
  double,
  box,
  primitive,
  primitive_array,
  array,
  unit,
  nothing,
  mapped,
  Erased,
  base,
  class,
  array_of,
  kotlin_unit,
  erased_as,
  void,
  of_type,
  print,
  print_returned,
  listed,
  look_up,
  meaning_of,
  first_erased,
  erased,
  erased_return,
}
use Rattle.erasure.specs.told.ErasureTold.{
  primitives,
  primitive_told,
  class_told,
  fixed_classes,
  primitive_at,
  class_at,
  Means,
  fixed_told,
  fixed_part,
  PutSized,
  PutPart,
  printed_told,
  part_at,
  PrintsAs,
  boxed_at,
}
use Rattle.erasure.specs.declared.Primitive as code
use Rattle.erasure.specs.declared.Primitive.TheVariants as of_code
use Rattle.erasure.specs.declared.Class.{Class}
use Rattle.erasure.specs.declared.Class.TheVariants as classes
use Rattle.erasure.specs.declared.Part.{Part}
use Rattle.erasure.specs.declared.Part.TheVariants as parts
use Rattle.erasure.specs.declared.Meaning as answer
use Rattle.erasure.specs.declared.Meaning.TheVariants as means
use Rattle.erasure.specs.declared.Position.{Position}
use Rattle.erasure.specs.declared.Position.TheVariants.{Parameter, Element, Return}
use Rattle.erasure.specs.declared.Printed.{Printed}
use Rattle.erasure.specs.declared.Printed.TheVariants as prints
use Rattle.erasure.proofs.TableLaws.{tabulate, tabulated, rows_from, by_number, get_or-last}

-- Some parts by their numbers: java/lang/Object, kotlin/Unit, a suspending function's continuation, and V.
pub object-at : fixed_part 24 ≡ fixed_told (parts.Class classes.Object)
unfolding fixed_part
object-at = refl

pub unit-part : fixed_part 37 ≡ of_type (class kotlin_unit)
unfolding fixed_part
unit-part = refl

pub continuation-at : fixed_part 38 ≡ fixed_told parts.Continuation
unfolding fixed_part
continuation-at = refl

pub void-part : (k : ℕ) → 39 ≤ k → fixed_part k ≡ void
unfolding fixed_part
void-part k h =
    get_or-eq_default (map (λ p. of_type (base p)) primitives ++ (map (λ p. of_type (array_of (base p))) primitives ++ map (λ c. of_type (class (ascii c))) fixed_classes))
    void h

-- Parts by the number of a primitive or a class.
pub primitive-last : (k : ℕ) → 7 ≤ k → primitive_at k ≡ primitive_at 7
unfolding primitive_at
primitive-last k = get_or-last primitives double 7 k (omega arith) refl

pub class-last : (k : ℕ) → 22 ≤ k → class_at k ≡ class_at 22
unfolding class_at
class-last k h = ap ascii (get_or-last fixed_classes "kotlin/coroutines/Continuation" 22 k (omega arith) refl h)

module _ (k : ℕ) where
  pub letter-part : fixed_part (min k 7) ≡ of_type (base (primitive_at k))
  unfolding fixed_part primitive_at
  letter-part = by_number fixed_part (λ i. of_type (base (primitive_at i))) 7 k refl λ h. ap (λ (p : Primitive). of_type (base p)) (primitive-last k h)

  pub array-part : fixed_part (8 + min k 7) ≡ of_type (array_of (base (primitive_at k)))
  unfolding fixed_part primitive_at
  array-part =
      by_number (λ i. fixed_part (8 + i)) (λ i. of_type (array_of (base (primitive_at i)))) 7 k refl λ h.
      ap (λ (p : Primitive). of_type (array_of (base p))) (primitive-last k h)

  pub box-part : fixed_part (16 + min k 7) ≡ of_type (class (ascii (box (primitive_at k))))
  unfolding fixed_part primitive_at
  box-part =
      by_number (λ i. fixed_part (16 + i)) (λ i. of_type (class (ascii (box (primitive_at i))))) 7 k refl λ h.
      ap (λ (p : Primitive). of_type (class (ascii (box p)))) (primitive-last k h)

  pub class-part : fixed_part (16 + min k 22) ≡ of_type (class (class_at k))
  unfolding fixed_part class_at
  class-part =
      by_number (λ i. fixed_part (16 + i)) (λ i. of_type (class (class_at i))) 22 k refl λ h. ap (λ (t : Text). of_type (class t)) (class-last k h)

-- What the code finds of a number: the box of a primitive as a class, and a part of each kind.
pub box-class : (k : ℕ) (p : code.Primitive) → k < 8 → primitive_told p ≡ primitive_at k → class_told (classes.Boxed p) ≡ class_at k
unfolding primitive_at class_at
box-class k p h e = rw e (sym (tabulated class_at (λ i. ascii (box (primitive_at i))) 8 refl k h))

module _ (k : ℕ) (p : code.Primitive) where
  pub letter-found : k < 8 → primitive_told p ≡ primitive_at k → fixed_told (parts.Letter p) ≡ fixed_part k
  unfolding fixed_part primitive_at
  letter-found h e = rw e (sym (tabulated fixed_part (λ i. of_type (base (primitive_at i))) 8 refl k h))

  pub array-found : 8 ≤ k → k < 16 → primitive_told p ≡ primitive_at (k - 8) → fixed_told (parts.LetterArray p) ≡ fixed_part k
  unfolding fixed_part primitive_at
  array-found l h e = rw e (sym (rows_from fixed_part (λ i. of_type (array_of (base (primitive_at (i - 8))))) 8 8 k refl l h))

  pub box-found : 16 ≤ k → k < 24 → primitive_told p ≡ primitive_at (k - 16) → fixed_told (parts.Boxed p) ≡ fixed_part k
  unfolding fixed_part primitive_at
  box-found l h e = rw e (sym (rows_from fixed_part (λ i. of_type (class (ascii (box (primitive_at (i - 16)))))) 16 8 k refl l h))

pub class-found : (k : ℕ) (c : Class) → 24 ≤ k → k < 37 → class_told c ≡ class_at (k - 16) → fixed_told (parts.Class c) ≡ fixed_part k
unfolding fixed_part class_at
class-found k c l h e = rw e (sym (rows_from fixed_part (λ i. of_type (class (class_at (i - 16)))) 24 13 k refl l h))

-- A part written, by its number.
module _ {at : ℕ} {S S' : List ℕ} (k : ℕ) where
  pub put-numbered : (part : Part) {r : ℕ} → fixed_told part ≡ fixed_part k → PutPart part at r S S' → PutSized (print_returned (fixed_part k)) at r S S'
  put-numbered part {r} e = subst (λ (x : erasure.Returned). PutSized (print_returned x) at r S S') e

  pub put-void : 39 ≤ k → S' ≡ set S at 0x56 → PutSized (print_returned (fixed_part k)) at 1 S S'
  put-void h e = rw (void-part k h) (record { size = refl; area = e })

-- A type's part at its position: a value, if it doesn't mean Unit.
abbrev Valued : erasure.Meaning → Type 0
Valued (primitive p) = Unit {0}
Valued (primitive_array p) = Unit {0}
Valued array = Unit {0}
Valued unit = ⊥
Valued nothing = Unit {0}
Valued (mapped n) = Unit {0}

part-value : (position : Position) (nullable : Bool) (inner : Option Erased) (m : erasure.Meaning) → Valued m
    → part_at position nullable inner m ≡ map_option of_type (erased_as (boxed_at position nullable) inner m)
part-value Parameter nullable inner m h = refl
part-value Element nullable inner m h = refl
part-value Return nullable inner (primitive p) h = refl
part-value Return nullable inner (primitive_array p) h = refl
part-value Return nullable inner array h = refl
part-value Return nullable inner unit h = absurd h
part-value Return nullable inner nothing h = refl
part-value Return nullable inner (mapped n) h = refl

-- Unit's part at a position
abbrev pub unit_part : Position → Part
unit_part Parameter = parts.Unit
unit_part Element = parts.Unit
unit_part Return = parts.Void

part-unit : (position : Position) (nullable : Bool) (inner : Option Erased) → part_at position nullable inner unit ≡ some (fixed_told (unit_part position))
part-unit Parameter nullable inner = refl
part-unit Element nullable inner = refl
part-unit Return nullable inner = refl

-- What the code answers of each meaning.
module _ {m : answer.Meaning} (position : Position) (nullable : Bool) where
  pub prints-box : {p : code.Primitive} {b : Bool} → m ≡ means.Primitive p → b ≡ boxed_at position nullable → b ≡ true
      → PrintsAs m nullable position (Some (prints.Fixed (parts.Boxed p)))
  prints-box {p} e f b n inner = rw (e, part-value position nullable inner (primitive (primitive_told p)) tt, ← f, b)

  pub prints-letter : {p : code.Primitive} {b : Bool} → m ≡ means.Primitive p → b ≡ boxed_at position nullable → b ≡ false
      → PrintsAs m nullable position (Some (prints.Fixed (parts.Letter p)))
  prints-letter {p} e f b n inner = rw (e, part-value position nullable inner (primitive (primitive_told p)) tt, ← f, b)

  pub prints-letters : {p : code.Primitive} → m ≡ means.PrimitiveArray p → PrintsAs m nullable position (Some (prints.Fixed (parts.LetterArray p)))
  prints-letters {p} e n inner = rw e (part-value position nullable inner (primitive_array (primitive_told p)) tt)

  pub prints-array : m ≡ means.Array → PrintsAs m nullable position (Some prints.ThroughArray)
  prints-array e n inner = rw e (part-value position nullable inner array tt ∙ map_twice array_of of_type inner)

  pub prints-unit : (q : Position) → m ≡ means.Unit → position ≡ q → PrintsAs m nullable position (Some (prints.Fixed (unit_part q)))
  prints-unit q e p n inner = rw (e, p) (part-unit q nullable inner)

  pub prints-nothing : m ≡ means.Nothing → PrintsAs m nullable position None
  prints-nothing e n inner = rw e (part-value position nullable inner nothing tt)

  pub prints-class : {k : Class} → m ≡ means.Class k → PrintsAs m nullable position (Some (prints.Fixed (parts.Class k)))
  prints-class {k} e n inner = rw e (part-value position nullable inner (mapped (class_told k)) tt)

  pub prints-itself : m ≡ means.Other → PrintsAs m nullable position (Some prints.ClassItself)
  prints-itself e n inner = rw e (part-value position nullable inner (mapped n) tt)

-- What it answers of a primitive or a class that has a number.
module _ (nullable : Bool) (position : Position) (r : std.Option Printed) (k : ℕ) where
  pub primitive-numbered : (p : code.Primitive) → primitive_told p ≡ primitive_at k → PrintsAs (means.Primitive p) nullable position r
      → (n : Text) (inner : Option Erased) → part_at position nullable inner (primitive (primitive_at k)) ≡ printed_told n inner r
  primitive-numbered p e f n inner = rw (← e) (f n inner)

  pub letters-numbered : (p : code.Primitive) → primitive_told p ≡ primitive_at k → PrintsAs (means.PrimitiveArray p) nullable position r
      → (n : Text) (inner : Option Erased) → part_at position nullable inner (primitive_array (primitive_at k)) ≡ printed_told n inner r
  letters-numbered p e f n inner = rw (← e) (f n inner)

  pub class-numbered : (c : Class) → class_told c ≡ class_at k → PrintsAs (means.Class c) nullable position r
      → (n : Text) (inner : Option Erased) → part_at position nullable inner (mapped (class_at k)) ≡ printed_told n inner r
  class-numbered c e f n inner = rw (← e) (f n inner)

-- The erasure of the first of some types, and of a return, by its meaning at its position.
pub first-at : (projection : ℕ) (nullable : Bool) (n : Text) (arguments after : Types)
    → map_option of_type (first_erased false (and_type projection nullable (some n) arguments after)) ≡ part_at Parameter nullable (first_erased true arguments) (meaning_of n)
unfolding first_erased
first-at projection nullable n arguments after = refl

pub element_at : (projection : ℕ) (nullable : Bool) (n : Text) (arguments after : Types)
    → map_option of_type (first_erased true (and_type projection nullable (some n) arguments after)) ≡ part_at Element nullable (first_erased true arguments) (meaning_of n)
unfolding first_erased
element_at projection nullable n arguments after = refl

pub return_at : (t : Ty) (n : Text) → t.name ≡ some n → erased_return t ≡ part_at Return t.nullable (first_erased true t.arguments) (meaning_of n)
unfolding erased_return erased first_erased
return_at t n e = rw e

-- What the code says of a name's bytes and of the meaning that it found, together.
pub part-told : (position : Position) (nullable : Bool) (inner : Option Erased) {bytes : List ℕ} (m : answer.Meaning) (r : std.Option Printed) (n : Text)
    → Means bytes m → PrintsAs m nullable position r → Characters n → utf8 n ≡ bytes
    → part_at position nullable inner (look_up n listed) ≡ printed_told n inner r
part-told position nullable inner m r n f g c u = ap (part_at position nullable inner) (f n c u) ∙ g n inner

-- No fixed part is longer than the continuation.
parts-short : tabulate (λ k. leb (length (print_returned (fixed_part k))) 33) 39 ≡ tabulate (λ k. true) 39
unfolding fixed_part print utf8 utf8_of
parts-short = refl

pub numbered-short : (k : ℕ) → length (print_returned (fixed_part k)) ≤ 33
numbered-short k =
    below 39 k (λ h. leb-true _ _ (tabulated (λ i. leb (length (print_returned (fixed_part i))) 33) (λ i. true) 39 parts-short k h)) λ h.
    rw (void-part k h) (omega arith)

pub part-short : (k : Part) → length (print_returned (fixed_told k)) ≤ 33
unfolding print utf8 utf8_of
part-short (parts.Letter of_code.Boolean) = omega arith
part-short (parts.LetterArray of_code.Boolean) = omega arith
part-short (parts.Boxed of_code.Boolean) = omega arith
part-short (parts.Letter of_code.Byte) = omega arith
part-short (parts.LetterArray of_code.Byte) = omega arith
part-short (parts.Boxed of_code.Byte) = omega arith
part-short (parts.Letter of_code.Char) = omega arith
part-short (parts.LetterArray of_code.Char) = omega arith
part-short (parts.Boxed of_code.Char) = omega arith
part-short (parts.Letter of_code.Short) = omega arith
part-short (parts.LetterArray of_code.Short) = omega arith
part-short (parts.Boxed of_code.Short) = omega arith
part-short (parts.Letter of_code.Int) = omega arith
part-short (parts.LetterArray of_code.Int) = omega arith
part-short (parts.Boxed of_code.Int) = omega arith
part-short (parts.Letter of_code.Long) = omega arith
part-short (parts.LetterArray of_code.Long) = omega arith
part-short (parts.Boxed of_code.Long) = omega arith
part-short (parts.Letter of_code.Float) = omega arith
part-short (parts.LetterArray of_code.Float) = omega arith
part-short (parts.Boxed of_code.Float) = omega arith
part-short (parts.Letter of_code.Double) = omega arith
part-short (parts.LetterArray of_code.Double) = omega arith
part-short (parts.Boxed of_code.Double) = omega arith
part-short (parts.Class (classes.Boxed of_code.Boolean)) = omega arith
part-short (parts.Class (classes.Boxed of_code.Byte)) = omega arith
part-short (parts.Class (classes.Boxed of_code.Char)) = omega arith
part-short (parts.Class (classes.Boxed of_code.Short)) = omega arith
part-short (parts.Class (classes.Boxed of_code.Int)) = omega arith
part-short (parts.Class (classes.Boxed of_code.Long)) = omega arith
part-short (parts.Class (classes.Boxed of_code.Float)) = omega arith
part-short (parts.Class (classes.Boxed of_code.Double)) = omega arith
part-short (parts.Class classes.Object) = omega arith
part-short (parts.Class classes.String) = omega arith
part-short (parts.Class classes.CharSequence) = omega arith
part-short (parts.Class classes.Throwable) = omega arith
part-short (parts.Class classes.Number) = omega arith
part-short (parts.Class classes.Comparable) = omega arith
part-short (parts.Class classes.Enum) = omega arith
part-short (parts.Class classes.Annotation) = omega arith
part-short (parts.Class classes.Iterable) = omega arith
part-short (parts.Class classes.Collection) = omega arith
part-short (parts.Class classes.List) = omega arith
part-short (parts.Class classes.Set) = omega arith
part-short (parts.Class classes.Map) = omega arith
part-short (parts.Class classes.Unit) = omega arith
part-short (parts.Class classes.Continuation) = omega arith
part-short parts.Unit = omega arith
part-short parts.Continuation = omega arith
part-short parts.Void = omega arith
