-- What is promised of default descriptors, of the texts that the definitions give.
-- Assumes nothing.
use mathlib.Core.Path.{◌≡◌, refl, ap, sym, ◌∙◌}
use mathlib.Core.Logic.Iff
use mathlib.Core.Logic.{◌↔◌}
use mathlib.Core.List.{List, map}
use mathlib.Core.Option.{Option, none, some, IsSome, some-injective}
use Rattle.foundation.specs.Choices.{map_option, All}
use Rattle.declaration_rows.specs.Declarations.{Ty, Constructor, Function}
use Rattle.erasure.specs.Erasure.{print, print_returned}
use Rattle.descriptors.specs.Defaults.{Parts, function_parts, constructor_parts, descriptor}
use Rattle.defaults.specs.Needs.{Has, needed, needed_by_constructor, part_texts}
use Rattle.defaults.specs.Descriptor.{ToldBy, ToldFunction, ToldConstructor, SameBy, SameText}
use Rattle.defaults.proofs.ChoiceLaws.{some_map}
use Rattle.defaults.proofs.Erased.{function_iff, constructor_iff}
use Rattle.defaults.proofs.Printed.{the_cut, every-cut, same_parts, same-descriptor}

value_of : {A : Type 0} (a : Option A) → IsSome a → (x : A) × (a ≡ some x)
value_of none h = absurd h
value_of (some a) h = (a, refl)

-- the text, from the parts
text-of : {x : Option Parts} {p : Parts} → x ≡ some p → map_option descriptor x ≡ some (descriptor p)
text-of e = ap (map_option descriptor) e

-- Nothing is asked of the parts but that they are there exactly when every needed type has a descriptor.
pub told_by_lem : (needs : List (Option Ty)) (x : Option Parts) → IsSome x ↔ All Has needs → ToldBy needs x (map_option descriptor x)
unfolding part_texts descriptor
told_by_lem needs x e = record {
  exactly = Iff.trans (some_map descriptor x) e;
  has_parts = λ h. value_of x ((some_map descriptor x).0 h);
  together = λ p f. (map print p.before, print_returned p.last, refl, text-of f);
  in_grammar = λ p f h. (descriptor p, text-of f, the_cut p h);
  every_cut = λ p f h text g c. every-cut p h (some-injective text (descriptor p) (sym g ∙ text-of f)) c;
}

pub same_by : (x y : Option Parts) → SameBy (x, map_option descriptor x) (y, map_option descriptor y)
same_by x y = record {
  same = λ p q f g h k. (
    λ e. same-descriptor p q h k (some-injective (descriptor p) (descriptor q) (sym (text-of f) ∙ e ∙ text-of g)),
    λ e. text-of f ∙ ap some (same_parts p q e) ∙ sym (text-of g),
  );
}

-- Each function's default descriptor, and each constructor's, tells what the document says of it.
pub told : (f : Function) → ToldFunction f (map_option descriptor (function_parts f))
told f = told_by_lem (needed f) (function_parts f) (function_iff f)

pub told_constructor : (c : Constructor) → ToldConstructor c (map_option descriptor (constructor_parts c))
told_constructor c = told_by_lem (needed_by_constructor c) (constructor_parts c) (constructor_iff c)

-- Two functions, of one class or of two.
pub same_text : (f g : Function) → SameText (f, map_option descriptor (function_parts f)) (g, map_option descriptor (function_parts g))
same_text f g = same_by (function_parts f) (function_parts g)
