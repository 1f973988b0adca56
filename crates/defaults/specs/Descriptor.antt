-- What a default descriptor tells of the function or constructor that it closes.
-- Assumes nothing.
use Rattle.std.specs.Prelude.{◌≡◌, ◌↔◌, List, [], ◌∷◌, ◌++◌, ℕ}
use Rattle.std.proofs.Math.Option.{Option, some, IsSome}
use Rattle.foundation.specs.Choices.{concat, All}
use Rattle.declaration_rows.specs.Declarations.{Ty, Constructor, Function}
use Rattle.descriptors.specs.Defaults.{Parts, function_parts, constructor_parts}
use Rattle.grammar.specs.Grammar.{ClassName, Cut}
use Rattle.defaults.specs.Needs.{Has, needed, needed_by_constructor, part_texts, part_names}

-- the class names of the parts keep to the JVM's form
abbrev pub InForm : Parts → Type 0
InForm p = All ClassName (part_names p)

-- Of the types that it needs, its erased parts by the definitions, and the text at the ref of its kind 7.
pub record ToldBy (needs : List (Option Ty)) (parts : Option Parts) (t : Option (List ℕ)) : Type 0 where
  -- It has a default descriptor exactly when every type that it needs has a descriptor,
  pub exactly : IsSome t ↔ All Has needs
  -- which is then put together from its parts: (, those before the last, ), the last.
  pub has_parts : IsSome t → (p : Parts) × (parts ≡ some p)
  pub together : (p : Parts)
      → parts ≡ some p
      → (before : List (List ℕ)) × (last : List ℕ)
      × (part_texts p ≡ before ++ (last ∷ []))
      × (t ≡ some (0x28 ∷ (concat before ++ (0x29 ∷ last))))
  -- Where its class names keep to the JVM's form, it is in the grammar,
  pub in_grammar : (p : Parts) → parts ≡ some p → InForm p → (text : List ℕ) × (t ≡ some text) × Cut text
  -- and every way of cutting it by the grammar gives just these parts in this order.
  pub every_cut : (p : Parts)
      → parts ≡ some p
      → InForm p
      → (text : List ℕ)
      → t ≡ some text
      → (c : Cut text)
      → c.parameters ++ (c.result ∷ []) ≡ part_texts p

abbrev pub ToldFunction : Function → Option (List ℕ) → Type 0
ToldFunction f = ToldBy (needed f) (function_parts f)

abbrev pub ToldConstructor : Constructor → Option (List ℕ) → Type 0
ToldConstructor c = ToldBy (needed_by_constructor c) (constructor_parts c)

-- Two of them whose class names keep to the form, each with its parts and its text, have the same text exactly when the texts of
-- their parts, in order and without their titles, are equal.
pub record SameBy (x y : Option Parts × Option (List ℕ)) : Type 0 where
  pub same : (p q : Parts) → x.0 ≡ some p → y.0 ≡ some q → InForm p → InForm q → (x.1 ≡ y.1) ↔ (part_texts p ≡ part_texts q)

abbrev pub SameText : Function × Option (List ℕ) → Function × Option (List ℕ) → Type 0
SameText x y = SameBy (function_parts x.0, x.1) (function_parts y.0, y.1)
