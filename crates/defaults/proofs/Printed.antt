-- What is printed of erased parts, and how the grammar cuts it.
-- Assumes nothing.
use mathlib.Core.Path.{◌≡◌, refl}
use mathlib.Core.List.{List, [], ◌∷◌, ◌++◌, map}
use Prim.Native.Nat.{ℕ}
use Rattle.foundation.specs.Choices.{concat, All}
use Rattle.characters.specs.Characters.{utf8}
use Rattle.erasure.specs.Erasure.{
  Primitive,
  boolean,
  byte,
  char,
  short,
  int,
  long,
  float,
  double,
  letter,
  Erased,
  base,
  class,
  array_of,
  Returned,
  void,
  of_type,
  print,
  print_returned,
}
use Rattle.descriptors.specs.Defaults.{Parts, descriptor}
use Rattle.grammar.specs.Grammar as grammar
use Rattle.grammar.specs.Grammar.{ClassName, BaseType, FieldType, base_type, object_type, array_type, ReturnType, field_type, void_type, join, Cut}
use Rattle.grammar.proofs.UniqueCut.{cuts_equal}
use Rattle.defaults.specs.Needs.{part_texts, erased_name, name_in_returned, part_names}
use Rattle.defaults.specs.Descriptor.{InForm}
use Rattle.foundation.proofs.EveryLaws.{all_split}
use Rattle.defaults.proofs.ChoiceLaws.{last_split}

-- A part whose class name keeps to the form prints a field descriptor of the grammar.
base-letter : (p : Primitive) → BaseType (letter p)
base-letter boolean = grammar.boolean
base-letter byte = grammar.byte
base-letter char = grammar.char
base-letter short = grammar.short
base-letter int = grammar.int
base-letter long = grammar.long
base-letter float = grammar.float
base-letter double = grammar.double

print-field : (e : Erased) → All ClassName (erased_name e) → FieldType (print e)
unfolding print
print-field (base p) h = base_type (base-letter p)
print-field (class n) h = object_type (utf8 n) h.0
print-field (array_of e) h = array_type (print-field e h)

print-fields : (es : List Erased) → All ClassName (concat (map erased_name es)) → All FieldType (map print es)
print-fields [] h = tt
print-fields (e ∷ es) h =
    let k = all_split ClassName (erased_name e) (concat (map erased_name es)) h in
    (print-field e k.0, print-fields es k.1)

print-returned : (r : Returned) → All ClassName (name_in_returned r) → ReturnType (print_returned r)
print-returned void h = void_type
print-returned (of_type e) h = field_type (print-field e h)

-- So the descriptor can be cut into its parts,
pub the_cut : (p : Parts) → InForm p → Cut (descriptor p)
unfolding part_names descriptor
the_cut p h =
    let k = all_split ClassName (concat (map erased_name p.before)) (name_in_returned p.last) h in
    record {
      parameters = map print p.before;
      result = print_returned p.last;
      are_field_types = print-fields p.before k.0;
      is_return_type = print-returned p.last k.1;
      gives = refl;
    }

-- and in no other way.
pub every-cut : (p : Parts) → InForm p → {text : List ℕ} → text ≡ descriptor p → (c : Cut text)
    → c.parameters ++ (c.result ∷ []) ≡ part_texts p
unfolding part_texts the_cut
every-cut p h e c = let u = cuts_equal c (the_cut p h) e in λ i. u.0 i ++ (u.1 i ∷ [])

-- The texts of the parts tell the descriptor,
pub same_parts : (p q : Parts) → part_texts p ≡ part_texts q → descriptor p ≡ descriptor q
unfolding part_texts descriptor
same_parts p q e =
    let r = last_split (map print p.before) (map print q.before) (print_returned p.last) (print_returned q.last) e in
    λ i. join (r.0 i) (r.1 i)

-- and if both are in form, the descriptor tells the texts.
pub same-descriptor : (p q : Parts) → InForm p → InForm q → descriptor p ≡ descriptor q → part_texts p ≡ part_texts q
unfolding part_texts the_cut
same-descriptor p q h k e = every-cut q k e (the_cut p h)
