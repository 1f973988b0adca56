-- Why two functions are only compared where their class names keep to the JVM's form: of these two the texts are the same and the
-- parts differ.
-- Assumes nothing.
use mathlib.Core.Path.{◌≡◌, refl, ap, sym, ◌∙◌}
use mathlib.Core.Logic.{◌≢◌}
use mathlib.Core.Bool.{false}
use mathlib.Core.List.{List, [], ◌∷◌, map}
use mathlib.Core.Option.{none, some}
use Prim.Native.Nat.{ℕ}
use native.Mathlib.Omega.{arith}
use Prim.Native.String.{String}
use lib.ListN.{length}
use Rattle.foundation.specs.Choices.{map_option}
use Rattle.foundation.specs.Texts.{ascii}
use Rattle.characters.specs.Characters.{utf8_of, utf8}
use Rattle.declaration_rows.specs.Declarations.{no_types, Ty, Parameter, Function}
use Rattle.erasure.specs.Erasure.{look_up, class, first_erased, erased, void, erased_return, print}
use Rattle.descriptors.specs.Defaults.{Parts, parts, function_parts, descriptor}
use Rattle.defaults.specs.Needs.{part_texts}

abbrev type_named : String → Ty
type_named n = record { nullable = false; name = some (ascii n); arguments = no_types }

abbrev parameter_of : String → Parameter
parameter_of n = record { name = some (ascii "p"); declares_default = false; type = some (type_named n); vararg_element = none }

-- fun f(..): Unit with parameters of types so named
abbrev function_of : List String → Function
function_of ns = record {
  name = ascii "f";
  flags = 6;
  parameters = map parameter_of ns;
  has_receiver = false;
  receiver = none;
  signature = none;
  returned = some (type_named "kotlin/Unit");
}

abbrev pub one : Function
one = function_of ("a;Lb" ∷ [])

abbrev pub two : Function
two = function_of ("a" ∷ "b" ∷ [])

abbrev pub parts_of_one : Parts
parts_of_one = parts (class (ascii "a;Lb") ∷ []) void

abbrev pub parts_of_two : Parts
parts_of_two = parts (class (ascii "a") ∷ class (ascii "b") ∷ []) void

pub parts_of-one : function_parts one ≡ some parts_of_one
unfolding function_parts look_up first_erased erased erased_return
parts_of-one = refl

pub parts_of_two_lem : function_parts two ≡ some parts_of_two
unfolding function_parts look_up first_erased erased erased_return
parts_of_two_lem = refl

pub same-texts : (descriptor parts_of_one ≡ ascii "(La;Lb;)V") × (descriptor parts_of_two ≡ ascii "(La;Lb;)V")
unfolding descriptor print utf8 utf8_of
same-texts = (refl, refl)

pub other_parts : part_texts parts_of_one ≢ part_texts parts_of_two
unfolding part_texts
other_parts e = let counts : ◌≡◌ {A = ℕ} 2 3 = ap length e in omega arith

-- So without the form the texts do not tell the parts.
pub form_needed : ((f g : Function) (p q : Parts)
    → function_parts f ≡ some p
    → function_parts g ≡ some q
    → map_option descriptor (function_parts f) ≡ map_option descriptor (function_parts g)
    → part_texts p ≡ part_texts q)
    → ⊥
form_needed h =
    let texts = ap some (same-texts.0 ∙ sym same-texts.1) in
    let same = ap (map_option descriptor) parts_of-one ∙ texts ∙ sym (ap (map_option descriptor) parts_of_two_lem) in
    other_parts (h one two parts_of_one parts_of_two parts_of-one parts_of_two_lem same)
