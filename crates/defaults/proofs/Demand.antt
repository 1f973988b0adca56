-- What is promised of default descriptors holds of any two accepted answers.
-- Assumes nothing.
use mathlib.Core.Path.{◌≡◌, refl, ◌∙◌, ap}
use mathlib.Core.List.{List, [], ◌∷◌, ◌++◌, map}
use mathlib.Core.Option.{Option}
use Prim.Native.Nat.{ℕ}
use Rattle.foundation.specs.Choices.{if_some, map_option, All}
use Rattle.foundation.proofs.ChoiceLaws.{all_append}
use Rattle.characters.specs.WellFormed.{Units}
use Rattle.declaration_rows.specs.Declarations.{Constructor, Function}
use Rattle.inputs.specs.Inputs.{Input}
use Rattle.inputs.specs.Outcomes.{Answer}
use Rattle.descriptors.specs.Defaults.{function_parts, constructor_parts, descriptor}
use Rattle.metadata.specs.Read.{read}
use Rattle.promises.specs.Walk.{Sheet, closed}
use Rattle.promises.specs.Promises.{Promised}
use Rattle.promises.proofs.Answered.{answer_promised}
use Rattle.defaults.specs.Descriptor.{ToldFunction, ToldConstructor, SameText}
use Rattle.defaults.specs.Demand.{Described, described, functions_on, constructors_on, functions_in, functions_of, Demand}
use Rattle.defaults.specs.Messages.{FunctionByMessages, ConstructorByMessages}
use Rattle.defaults.proofs.Messages.{by_messages}
use Rattle.defaults.proofs.Defaults.{told, told_constructor, same_text}

-- what the definitions give, each with its text
module _ {A : Type 0} (default : A → Option (List ℕ)) where
  abbrev given : List A → List (Described A)
  given = map λ x. (x, default x)

  on-sheet : (xs : List A) → map described (map (λ x. closed x (default x)) xs) ≡ given xs
  on-sheet [] = refl
  on-sheet (x ∷ xs) = ap (λ (l : List (Described A)). (x, default x) ∷ l) (on-sheet xs)

  as_read : (xs : List A) → map (λ x. x.0) (given xs) ≡ xs
  as_read [] = refl
  as_read (x ∷ xs) = ap (λ (l : List A). x ∷ l) (as_read xs)

  all-given : (P : Described A → Type 0) → ((x : A) → P (x, default x)) → (xs : List A) → All P (given xs)
  all-given P h [] = tt
  all-given P h (x ∷ xs) = (h x, all-given P h xs)

  all_of : (P : A → Type 0) (xs : List A) → All P xs → All (λ x. P x.0) (given xs)
  all_of P [] h = tt
  all_of P (x ∷ xs) h = (h.0, all_of P xs h.1)

abbrev of_function : Function → Option (List ℕ)
of_function f = map_option descriptor (function_parts f)

abbrev of_constructor : Constructor → Option (List ℕ)
of_constructor c = map_option descriptor (constructor_parts c)

module _ (i : Input) (a : Answer) (p : Promised i a) where
  functions-on : functions_on a ≡ given of_function p.declarations.functions
  unfolding functions_on
  functions-on = ap (λ (s : Option Sheet). if_some s [] λ t. map described t.functions) p.walks ∙ on-sheet of_function p.declarations.functions

  constructors-on : constructors_on a ≡ given of_constructor p.declarations.constructors
  unfolding constructors_on
  constructors-on =
      ap (λ (s : Option Sheet). if_some s [] λ t. map described t.constructors) p.walks ∙ on-sheet of_constructor p.declarations.constructors

  functions-read : functions_of i ≡ p.declarations.functions
  unfolding functions_of
  functions-read = ap functions_in p.reads

  functions-same : map (λ x. x.0) (functions_on a) ≡ functions_of i
  functions-same = rw (functions-on, functions-read) (as_read of_function p.declarations.functions)

  each-function : (P : Described Function → Type 0) → ((f : Function) → P (f, of_function f)) → All P (functions_on a)
  each-function P h = rw functions-on (all-given of_function P h p.declarations.functions)

  each_read : (P : Function → Type 0) → All P p.declarations.functions → All (λ x. P x.0) (functions_on a)
  each_read P h = rw functions-on (all_of of_function P p.declarations.functions h)

  each-made : (P : Constructor → Type 0) → All P p.declarations.constructors → All (λ x. P x.0) (constructors_on a)
  each-made P h = rw constructors-on (all_of of_constructor P p.declarations.constructors h)

  each-constructor : (P : Described Constructor → Type 0) → ((c : Constructor) → P (c, of_constructor c)) → All P (constructors_on a)
  each-constructor P h = rw constructors-on (all-given of_constructor P h p.declarations.constructors)

-- For any two inputs, any areas, and whatever answers the reader gives: the promise as one statement on what the areas then hold.
pub demand_3 : (sheet text sheet' text' : List ℕ) (i j : Input) {a b : Answer} → read sheet text i ≡ a → read sheet' text' j ≡ b
    → Units i.d2 → Units j.d2 → a.number ≡ 0 → b.number ≡ 0 → Demand i j a b
demand_3 sheet text sheet' text' i j {a} {b} e e' u v y z =
    let p = answer_promised sheet text i e u y in
    let q = answer_promised sheet' text' j e' v z in
    let both : (P : Described Function → Type 0) → ((f : Function) → P (f, of_function f)) → All P (functions_on a ++ functions_on b) =
    λ P h. all_append P (functions_on a) (functions_on b) (each-function i a p P h) (each-function j b q P h) in
    let C : Described Constructor → Type 0 = λ x. ToldConstructor x.0 x.1 in
    record {
      first = functions-same i a p;
      second = functions-same j b q;
      messages = (
        each_read i a p (FunctionByMessages i) (by_messages i p.declarations p.left p.reads).0,
        each_read j b q (FunctionByMessages j) (by_messages j q.declarations q.left q.reads).0,
      );
      each = both (λ x. ToldFunction x.0 x.1) told;
      same = both (λ x. All (SameText x) (functions_on a ++ functions_on b)) λ f. both (SameText (f, of_function f)) (same_text f);
      constructors =
          all_append C (constructors_on a) (constructors_on b) (each-constructor i a p C told_constructor) (each-constructor j b q C told_constructor);
      constructor_messages = (
        each-made i a p (ConstructorByMessages i) (by_messages i p.declarations p.left p.reads).1,
        each-made j b q (ConstructorByMessages j) (by_messages j q.declarations q.left q.reads).1,
      );
    }
