-- The class names that no input gives keep to the JVM's form: those of the boxes, Unit, Object and the continuation, and those that the
-- table of names gives. So the form is a condition on names that are not listed alone.
-- Assumes nothing.
use mathlib.Core.Path.{subst}
use mathlib.Core.Logic.{◌≢◌}
use mathlib.Core.Bool.{Bool, true, false, not, ◌&&◌}
use mathlib.Core.List.{List, [], ◌∷◌, ◌++◌, map, cons-ne-nil}
use Prim.Native.Nat.{ℕ}
use lib.Dec.{T, eqb}
use borrow.Author.Tests.{eq-eqb}
use Rattle.foundation.specs.Choices.{concat, All}
use Rattle.foundation.specs.Texts.{ascii}
use Rattle.characters.specs.Characters.{utf8_of, utf8}
use Rattle.grammar.specs.Grammar.{segments, Segment, ClassName}
use Rattle.erasure.specs.Erasure.{
  box,
  Meaning,
  primitive,
  primitive_array,
  array,
  unit,
  nothing,
  mapped,
  listed,
  Erased,
  class,
  kotlin_unit,
}
use Rattle.descriptors.specs.Defaults.{object, continuation_class}
use Rattle.defaults.specs.Needs.{erased_name}

-- the form as a test
abbrev some_test : List ℕ → Bool
some_test [] = false
some_test (c ∷ cs) = true

abbrev apart_test : List ℕ → Bool
apart_test [] = true
apart_test (c ∷ cs) = not (eqb c 0x3b) && (not (eqb c 0x5b) && apart_test cs)

abbrev form_test : List (List ℕ) → Bool
form_test [] = true
form_test (s ∷ ss) = some_test s && (apart_test s && form_test ss)

abbrev names_test : List (List ℕ) → Bool
names_test [] = true
names_test (n ∷ ns) = form_test (segments n) && names_test ns

both : (a b : Bool) → T (a && b) → T a × T b
both true b h = (tt, h)
both false b h = absurd h

other : (c k : ℕ) → T (not (eqb c k)) → c ≢ k
other c k h e = subst (λ (b : Bool). T (not b)) (eq-eqb c k e) h

apart : (s : List ℕ) → T (apart_test s) → All (λ c. c ≢ 0x3b) s × All (λ c. c ≢ 0x5b) s
apart [] h = (tt, tt)
apart (c ∷ cs) h =
    let p = both (not (eqb c 0x3b)) (not (eqb c 0x5b) && apart_test cs) h in
    let q = both (not (eqb c 0x5b)) (apart_test cs) p.1 in
    let r = apart cs q.1 in ((other c 0x3b p.0, r.0), (other c 0x5b q.0, r.1))

there : (s : List ℕ) → T (some_test s) → s ≢ []
there [] h = absurd h
there (c ∷ cs) h = cons-ne-nil c cs

form : (ss : List (List ℕ)) → T (form_test ss) → All Segment ss
form [] h = tt
form (s ∷ ss) h =
    let p = both (some_test s) (apart_test s && form_test ss) h in
    let q = both (apart_test s) (form_test ss) p.1 in
    let r = apart s q.0 in (record { non_empty = there s p.0; no_semicolon = r.0; no_bracket = r.1 }, form ss q.1)

names_form : (ns : List (List ℕ)) → T (names_test ns) → All ClassName ns
unfolding ClassName
names_form [] h = tt
names_form (n ∷ ns) h = let p = both (form_test (segments n)) (names_test ns) h in (form (segments n) p.0, names_form ns p.1)

-- the class that an entry of the table gives
abbrev pub given : Meaning → List Erased
given (primitive p) = class (ascii (box p)) ∷ []
given (primitive_array p) = []
given array = []
given unit = class kotlin_unit ∷ []
given nothing = []
given (mapped n) = class n ∷ []

abbrev pub fixed : List Erased
fixed = concat (map (λ e. given e.meaning) listed) ++ (object ∷ continuation_class ∷ [])

pub fixed_form : All ClassName (concat (map erased_name fixed))
unfolding segments utf8 utf8_of
fixed_form = names_form (concat (map erased_name fixed)) tt
