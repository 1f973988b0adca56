-- Default descriptors are well-formed UTF-8.
-- Assumes nothing.
use mathlib.Core.Path.{◌≡◌, refl, sym, subst}
use mathlib.Core.Bool.{Bool, true, false, ◌||◌}
use mathlib.Core.List.{List, [], ◌∷◌, ◌++◌, map, append_assoc}
use mathlib.Core.Option.{Option, none, some}
use Prim.Native.Nat.{ℕ}
use lib.Dec.{T}
use Rattle.foundation.specs.Choices.{if_some, map_option, both_of, every_of, concat, All, IfSome}
use Rattle.foundation.specs.Texts.{Text, ascii, same}
use Rattle.foundation.proofs.ChoiceLaws.{if_ind, all_append, all_map}
use Rattle.characters.specs.Characters.{is_scalar, utf8, utf8_of}
use Rattle.characters.specs.WellFormed.{WellFormed, empty, character}
use Rattle.characters.specs.told.CharactersTold.{Characters}
use Rattle.foundation.proofs.EveryLaws.{every, every_all}
use Rattle.characters.proofs.Utf8Laws.{utf8_well_formed}
use Rattle.names.proofs.ScalarLaws.{substituted-keeps}
use Rattle.declaration_rows.specs.Declarations.{Types, no_types, and_type, Ty, single, Parameter, Constructor, Function}
use Rattle.schema.proofs.Fine.{single_fine, FineTypes, FineTy, FineParameter, FineConstructor, FineFunction}
use Rattle.erasure.specs.Erasure.{
  Primitive,
  boolean,
  byte,
  char,
  short,
  int,
  long,
  float,
  double,
  letter,
  box,
  Meaning,
  primitive,
  primitive_array,
  array,
  unit,
  nothing,
  mapped,
  Entry,
  listed,
  slashed,
  look_up,
  meaning_of,
  Erased,
  base,
  class,
  array_of,
  kotlin_unit,
  erased_as,
  first_erased,
  erased,
  Returned,
  void,
  of_type,
  returned_as,
  erased_return,
  print,
  print_returned,
}
use Rattle.descriptors.specs.Defaults.{
  Parts,
  parts,
  erased_option,
  parameter_types,
  types_before,
  suspends,
  continuation_class,
  suspended_parts,
  function_parts,
  constructor_parts,
  descriptor,
}

-- one well-formed text after another
pub well_formed_append : {s t : List ℕ} → WellFormed s → WellFormed t → WellFormed (s ++ t)
well_formed_append empty q = q
well_formed_append {t = t} (character {b = b} {bs = bs} {rest = rest} l f g p) q =
    subst WellFormed (ap-cons b (sym (append_assoc bs rest t))) (character l f g (well_formed_append p q))
  where
    ap-cons : (b : ℕ) {x y : List ℕ} → x ≡ y → ◌≡◌ {A = List ℕ} (b ∷ x) (b ∷ y)
    ap-cons b e = cc

-- every class name that an erased type holds is made of characters
abbrev pub FineErased : Erased → Type 0
FineErased (base p) = Unit {0}
FineErased (class n) = Characters n
FineErased (array_of e) = FineErased e

abbrev FineMeaning : Meaning → Type 0
FineMeaning (primitive p) = Unit {0}
FineMeaning (primitive_array p) = Unit {0}
FineMeaning array = Unit {0}
FineMeaning unit = Unit {0}
FineMeaning nothing = Unit {0}
FineMeaning (mapped n) = Characters n

-- the table's own names, by one computed test
fine_meaning : Meaning → Bool
fine_meaning (primitive p) = true
fine_meaning (primitive_array p) = true
fine_meaning array = true
fine_meaning unit = true
fine_meaning nothing = true
fine_meaning (mapped n) = every is_scalar n

fine_meaning_lem : (m : Meaning) → T (fine_meaning m) → FineMeaning m
unfolding fine_meaning
fine_meaning_lem (primitive p) t = tt
fine_meaning_lem (primitive_array p) t = tt
fine_meaning_lem array t = tt
fine_meaning_lem unit t = tt
fine_meaning_lem nothing t = tt
fine_meaning_lem (mapped n) t = every_all is_scalar n t

table_fine : All (λ (e : Entry). T (fine_meaning e.meaning)) listed
unfolding fine_meaning is_scalar
table_fine = every_all (λ (e : Entry). fine_meaning e.meaning) listed tt

look_up_fine : (n : Text) (es : List Entry) → Characters n → All (λ (e : Entry). T (fine_meaning e.meaning)) es → FineMeaning (look_up n es)
unfolding look_up
look_up_fine n [] c h = c
look_up_fine n (e ∷ es) c h =
    if_ind FineMeaning (same n e.name) (λ t. fine_meaning_lem e.meaning h.0) λ t. look_up_fine n es c h.1

meaning_fine : (n : Text) → Characters n → FineMeaning (meaning_of n)
unfolding is_scalar
meaning_fine n c = look_up_fine (slashed n) listed (substituted-keeps (λ d. T (is_scalar d)) 0x2e 0x2f n tt c) table_fine

box_fine : (p : Primitive) → Characters (ascii (box p))
unfolding is_scalar
box_fine boolean = every_all is_scalar (ascii "java/lang/Boolean") tt
box_fine byte = every_all is_scalar (ascii "java/lang/Byte") tt
box_fine char = every_all is_scalar (ascii "java/lang/Character") tt
box_fine short = every_all is_scalar (ascii "java/lang/Short") tt
box_fine int = every_all is_scalar (ascii "java/lang/Integer") tt
box_fine long = every_all is_scalar (ascii "java/lang/Long") tt
box_fine float = every_all is_scalar (ascii "java/lang/Float") tt
box_fine double = every_all is_scalar (ascii "java/lang/Double") tt

map_fine : (o : Option Erased) → IfSome FineErased o → IfSome FineErased (map_option array_of o)
map_fine none h = tt
map_fine (some e) h = h

erased_as_fine : (boxed : Bool) (inner : Option Erased) (m : Meaning) → IfSome FineErased inner → FineMeaning m → IfSome FineErased (erased_as boxed inner m)
unfolding is_scalar
erased_as_fine boxed inner (primitive p) i f = if_ind FineErased boxed (λ t. box_fine p) λ t. tt
erased_as_fine boxed inner (primitive_array p) i f = tt
erased_as_fine boxed inner array i f = map_fine inner i
erased_as_fine boxed inner unit i f = every_all is_scalar kotlin_unit tt
erased_as_fine boxed inner nothing i f = tt
erased_as_fine boxed inner (mapped n) i f = f

first_erased_fine : (element : Bool) (ts : Types) → FineTypes ts → IfSome FineErased (first_erased element ts)
unfolding first_erased
first_erased_fine element no_types f = tt
first_erased_fine element (and_type projection nullable none arguments after) f = tt
first_erased_fine element (and_type projection nullable (some n) arguments after) f =
    erased_as_fine (nullable || element) (first_erased true arguments) (meaning_of n) (first_erased_fine true arguments f.4) (meaning_fine n f.2)

-- an ASCII byte by itself
one_byte : (b : ℕ) → T (is_scalar b) → utf8 (b ∷ []) ≡ b ∷ [] → WellFormed (b ∷ [])
one_byte b s e = subst WellFormed e (utf8_well_formed (b ∷ []) (s, tt))

letter_well_formed : (p : Primitive) → WellFormed (letter p ∷ [])
unfolding is_scalar utf8 utf8_of
letter_well_formed boolean = one_byte 0x5a tt refl
letter_well_formed byte = one_byte 0x42 tt refl
letter_well_formed char = one_byte 0x43 tt refl
letter_well_formed short = one_byte 0x53 tt refl
letter_well_formed int = one_byte 0x49 tt refl
letter_well_formed long = one_byte 0x4a tt refl
letter_well_formed float = one_byte 0x46 tt refl
letter_well_formed double = one_byte 0x44 tt refl

print_well_formed : (e : Erased) → FineErased e → WellFormed (print e)
unfolding print is_scalar utf8 utf8_of
print_well_formed (base p) f = letter_well_formed p
print_well_formed (class n) f =
    well_formed_append (one_byte 0x4c tt refl) (well_formed_append (utf8_well_formed n f) (one_byte 0x3b tt refl))
print_well_formed (array_of e) f = well_formed_append (one_byte 0x5b tt refl) (print_well_formed e f)

abbrev FineReturned : Returned → Type 0
FineReturned void = Unit {0}
FineReturned (of_type e) = FineErased e

returned_well_formed : (r : Returned) → FineReturned r → WellFormed (print_returned r)
unfolding is_scalar utf8 utf8_of
returned_well_formed void f = one_byte 0x56 tt refl
returned_well_formed (of_type e) f = print_well_formed e f

abbrev FineParts : Parts → Type 0
FineParts p = All FineErased p.before × FineReturned p.last

all_well_formed : (es : List Erased) → All FineErased es → WellFormed (concat (map print es))
all_well_formed [] f = empty
all_well_formed (e ∷ es) f = well_formed_append (print_well_formed e f.0) (all_well_formed es f.1)

descriptor_well_formed : (p : Parts) → FineParts p → WellFormed (descriptor p)
unfolding descriptor is_scalar utf8 utf8_of
descriptor_well_formed p f =
    well_formed_append (one_byte 0x28 tt refl) (well_formed_append (all_well_formed p.before f.0)
    (well_formed_append (one_byte 0x29 tt refl) (returned_well_formed p.last f.1)))

-- the parts of a fine function or constructor
option_fine : (t : Option Ty) → IfSome FineTy t → IfSome FineErased (erased_option t)
unfolding erased
option_fine none f = tt
option_fine (some t) f = first_erased_fine false (single t) (single_fine f)

both_fine : {A B C : Type 0} (P : A → Type 0) (Q : B → Type 0) (R : C → Type 0) (f : A → B → C) (a : Option A) (b : Option B)
    → IfSome P a → IfSome Q b → ((x : A) (y : B) → P x → Q y → R (f x y)) → IfSome R (both_of f a b)
both_fine P Q R f none b p q h = tt
both_fine P Q R f (some x) none p q h = tt
both_fine P Q R f (some x) (some y) p q h = h x y p q

every_fine : (ts : List (Option Ty)) → All (IfSome FineTy) ts → IfSome (All FineErased) (every_of (map erased_option ts))
every_fine [] f = tt
every_fine (t ∷ ts) f =
    both_fine FineErased (All FineErased) (All FineErased) (λ x xs. x ∷ xs) (erased_option t) (every_of (map erased_option ts))
    (option_fine t f.0) (every_fine ts f.1) λ x xs p q. (p, q)

parameter_types_fine : (ps : List Parameter) → All FineParameter ps → All (IfSome FineTy) (parameter_types ps)
parameter_types_fine ps f = all_map FineParameter (IfSome FineTy) (λ p. p.type) (λ p g. g.type) ps f

value_fine : (e : Option Erased) → IfSome FineErased e → IfSome FineReturned (map_option of_type e)
value_fine none f = tt
value_fine (some e) f = f

returned_as_fine : (m : Meaning) (e : Option Erased) → IfSome FineErased e → IfSome FineReturned (returned_as m e)
returned_as_fine unit e f = tt
returned_as_fine (primitive p) e f = value_fine e f
returned_as_fine (primitive_array p) e f = value_fine e f
returned_as_fine array e f = value_fine e f
returned_as_fine nothing e f = value_fine e f
returned_as_fine (mapped n) e f = value_fine e f

return_fine : (t : Option Ty) → IfSome FineTy t → IfSome FineReturned (if_some t none erased_return)
unfolding erased_return
return_fine none f = tt
return_fine (some t) f = go t.name
  where
    go : (n : Option Text) → IfSome FineReturned (if_some n none λ m. returned_as (meaning_of m) (erased t))
    go none = tt
    go (some n) = returned_as_fine (meaning_of n) (erased t) (option_fine (some t) f)

suspended_fine : (o : Option (List Erased)) → IfSome (All FineErased) o → IfSome FineParts (map_option suspended_parts o)
unfolding is_scalar
suspended_fine none f = tt
suspended_fine (some es) f = (
  all_append FineErased es (continuation_class ∷ []) f (every_all is_scalar (ascii "kotlin/coroutines/Continuation") tt, tt),
  every_all is_scalar (ascii "java/lang/Object") tt,
)

before_fine : (f : Function) → FineFunction f → All (IfSome FineTy) (types_before f)
before_fine f g =
    let ps = parameter_types_fine f.parameters g.parameters in
    if_ind (All (IfSome FineTy)) f.has_receiver (λ t. (g.receiver, ps)) λ t. ps

function_parts_fine : (f : Function) → FineFunction f → IfSome FineParts (function_parts f)
unfolding function_parts
function_parts_fine f g =
    let before = every_fine (types_before f) (before_fine f g) in
    if_ind (IfSome FineParts) (suspends f) (λ t. suspended_fine (every_of (map erased_option (types_before f))) before) λ t.
    both_fine (All FineErased) FineReturned FineParts parts (every_of (map erased_option (types_before f))) (if_some f.returned none erased_return)
    before (return_fine f.returned g.returned) λ es r p q. (p, q)

constructor_parts_fine : (c : Constructor) → FineConstructor c → IfSome FineParts (constructor_parts c)
unfolding constructor_parts
constructor_parts_fine c g = go (every_of (map erased_option (parameter_types c.parameters)))
    (every_fine (parameter_types c.parameters) (parameter_types_fine c.parameters g.parameters))
  where
    go : (o : Option (List Erased)) → IfSome (All FineErased) o → IfSome FineParts (map_option (λ es. parts es void) o)
    go none f = tt
    go (some es) f = (f, tt)

default_well_formed : (o : Option Parts) → IfSome FineParts o → IfSome WellFormed (map_option descriptor o)
default_well_formed none f = tt
default_well_formed (some p) f = descriptor_well_formed p f

-- The default descriptors of what is fine are well-formed.
pub function_well_formed : (f : Function) → FineFunction f → IfSome WellFormed (map_option descriptor (function_parts f))
function_well_formed f g = default_well_formed (function_parts f) (function_parts_fine f g)

pub constructor_well_formed : (c : Constructor) → FineConstructor c → IfSome WellFormed (map_option descriptor (constructor_parts c))
constructor_well_formed c g = default_well_formed (constructor_parts c) (constructor_parts_fine c g)
