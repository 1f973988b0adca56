-- How many records of each kind the rows of declarations are; and the parameters' number, from the sheet's length and the others.
-- Assumes nothing.
use mathlib.Core.Path.{◌≡◌, refl, sym}
use mathlib.Core.List.{List, [], ◌∷◌, ◌++◌, map}
use mathlib.Core.Option.{Option, none, some}
use Prim.Native.Nat.{ℕ, ◌+◌, ◌-◌, ◌*◌, ◌/◌}
use native.Mathlib.Nat.{add_comm, mul-zero, mul-suc}
use native.Mathlib.Omega.{arith}
use lib.Dec.{eqb}
use lib.ListN.{length}
use Rattle.std.specs.Prelude.{if◌then◌else◌}
use Rattle.foundation.specs.Choices.{concat}
use Rattle.sheet.specs.Rows.{Row, sheet_from}
use Rattle.sheet.proofs.RowLaws.{sheet-length}
use Rattle.declaration_rows.specs.Declarations.{Types, no_types, and_type, Ty, single, Parameter, Constructor, Function, Property, Alias, Declarations}
use Rattle.declaration_rows.specs.Rows.{argument_role, types_rows, type_rows, parameter_rows, parameters_rows, constructor_rows, function_rows, property_rows, alias_rows, aliases_rows}
use Rattle.schema.specs.Counting.{count_kind}
use Rattle.schema.specs.told.TypeSizes.{size_of_all, declarations_size}
use Rattle.schema.proofs.TypeCount.{count-append, count_all}
use Rattle.descriptors.specs.Defaults.{constructor_parts, default_row, closed_constructor, closed_function}
use Rattle.declarations.specs.Payload.{declaration_rows}
use Rattle.promises.proofs.Costs.{constructor_cost, function_cost, members_cost, declarations-length}

-- what one row of kind n adds to the count of kind k
abbrev one : ℕ → ℕ → ℕ
one n k = if eqb n k then 1 else 0

-- Any kind but 6: the rows of types are left out.
module _ (k : ℕ) (no-type : one 6 k ≡ 0) where
  types-none : (role : ℕ) (ts : Types) → count_kind k (types_rows role ts) ≡ 0
  unfolding types_rows
  types-none role no_types = refl
  types-none role (and_type projection nullable name arguments after) =
      omega (
        arith,
        no-type,
        count-append k (types_rows argument_role arguments) (types_rows role after),
        types-none argument_role arguments,
        types-none role after,
      )

  type-none : (role : ℕ) (t : Option Ty) → count_kind k (type_rows role t) ≡ 0
  type-none role none = refl
  type-none role (some t) = types-none role (single t)

  parameter-of : (p : Parameter) → count_kind k (parameter_rows p) ≡ one 5 k
  unfolding parameter_rows
  parameter-of p = simp (count-append, type-none) (omega arith)

  abbrev parameters_of : List Parameter → ℕ
  parameters_of = size_of_all (λ p. one 5 k)

  parameters-of : (ps : List Parameter) → count_kind k (parameters_rows ps) ≡ parameters_of ps
  parameters-of = count_all k parameter_rows (λ p. one 5 k) parameter-of

  abbrev constructor_of : Constructor → ℕ
  constructor_of c = one 2 k + one 7 k + parameters_of c.parameters

  abbrev function_of : Function → ℕ
  function_of f = one 3 k + one 7 k + parameters_of f.parameters

  constructor-of : (c : Constructor) → count_kind k (closed_constructor c) ≡ constructor_of c
  unfolding closed_constructor constructor_rows
  constructor-of c =
      omega (arith, count-append k (parameters_rows c.parameters) (default_row (constructor_parts c) ∷ []), parameters-of c.parameters)

  function_of_lem : (f : Function) → count_kind k (closed_function f) ≡ function_of f
  unfolding closed_function function_rows
  function_of_lem f = simp (count-append, type-none, parameters-of) (omega arith)

  property-of : (p : Property) → count_kind k (property_rows p) ≡ one 4 k
  unfolding property_rows
  property-of p = simp (count-append, type-none) (omega arith)

  alias-of : (a : Alias) → count_kind k (alias_rows a) ≡ one 8 k
  unfolding alias_rows
  alias-of a = simp (count-append, type-none) (omega arith)

  pub kind-count : (kind : ℕ) (d : Declarations)
      → count_kind k (declaration_rows kind d)
      ≡ one 1 k + size_of_all constructor_of d.constructors + size_of_all function_of d.functions + size_of_all (λ p. one 4 k) d.properties + one 9 k
      + size_of_all (λ a. one 8 k) d.aliases
  unfolding declaration_rows
  kind-count kind d =
      let cs = concat (map closed_constructor d.constructors) in
      let fs = concat (map closed_function d.functions) in
      let ps = concat (map property_rows d.properties) in
      omega (
        arith,
        count-append k cs (fs ++ (ps ++ aliases_rows d.aliases)),
        count-append k fs (ps ++ aliases_rows d.aliases),
        count-append k ps (aliases_rows d.aliases),
        count_all k closed_constructor constructor_of constructor-of d.constructors,
        count_all k closed_function function_of function_of_lem d.functions,
        count_all k property_rows (λ p. one 4 k) property-of d.properties,
        count_all k alias_rows (λ a. one 8 k) alias-of d.aliases,
      )

-- Each counts for nothing, or for one.
module _ {A : Type 0} (size : A → ℕ) where
  all_none : ((a : A) → size a ≡ 0) → (xs : List A) → size_of_all size xs ≡ 0
  all_none h [] = refl
  all_none h (x ∷ xs) = omega (arith, h x, all_none h xs)

  all_one : ((a : A) → size a ≡ 1) → (xs : List A) → size_of_all size xs ≡ length xs
  all_one h [] = refl
  all_one h (x ∷ xs) = omega (arith, h x, all_one h xs)

-- no parameter is of another kind
others : (ps : List Parameter) → size_of_all (λ p. 0) ps ≡ 0
others = all_none (λ p. 0) λ p. refl

module _ (kind : ℕ) (d : Declarations) where
  abbrev rows : List Row
  rows = declaration_rows kind d

  no-properties : size_of_all (λ p. 0) d.properties ≡ 0
  no-properties = all_none (λ p. 0) (λ p. refl) d.properties

  no-aliases : size_of_all (λ a. 0) d.aliases ≡ 0
  no-aliases = all_none (λ a. 0) (λ a. refl) d.aliases

  no-constructors : size_of_all (λ (c : Constructor). 0 + 0 + size_of_all (λ p. 0) c.parameters) d.constructors ≡ 0
  no-constructors =
      all_none (λ (c : Constructor). 0 + 0 + size_of_all (λ p. 0) c.parameters) (λ c. omega (arith, others c.parameters)) d.constructors

  no-functions : size_of_all (λ (f : Function). 0 + 0 + size_of_all (λ p. 0) f.parameters) d.functions ≡ 0
  no-functions =
      all_none (λ (f : Function). 0 + 0 + size_of_all (λ p. 0) f.parameters) (λ f. omega (arith, others f.parameters)) d.functions

  pub heads : count_kind 1 rows ≡ 1
  heads = omega (arith, kind-count 1 refl kind d, no-constructors, no-functions, no-properties, no-aliases)

  pub constructors : count_kind 2 rows ≡ length d.constructors
  constructors =
      omega (
        arith,
        kind-count 2 refl kind d,
        all_one (constructor_of 2 refl) (λ c. omega (arith, others c.parameters)) d.constructors,
        no-functions,
        no-properties,
        no-aliases,
      )

  pub functions : count_kind 3 rows ≡ length d.functions
  functions =
      omega (
        arith,
        kind-count 3 refl kind d,
        all_one (function_of 3 refl) (λ f. omega (arith, others f.parameters)) d.functions,
        no-constructors,
        no-properties,
        no-aliases,
      )

  pub properties : count_kind 4 rows ≡ length d.properties
  properties =
      omega (arith, kind-count 4 refl kind d, all_one (λ p. 1) (λ p. refl) d.properties, no-constructors, no-functions, no-aliases)

  pub defaults : count_kind 7 rows ≡ length d.constructors + length d.functions
  defaults =
      omega (
        arith,
        kind-count 7 refl kind d,
        all_one (constructor_of 7 refl) (λ c. omega (arith, others c.parameters)) d.constructors,
        all_one (function_of 7 refl) (λ f. omega (arith, others f.parameters)) d.functions,
        no-properties,
        no-aliases,
      )

  pub aliases : count_kind 8 rows ≡ length d.aliases
  aliases =
      omega (arith, kind-count 8 refl kind d, all_one (λ a. 1) (λ a. refl) d.aliases, no-constructors, no-functions, no-properties)

  pub alias-counts : count_kind 9 rows ≡ 1
  alias-counts = omega (arith, kind-count 9 refl kind d, no-constructors, no-functions, no-properties, no-aliases)

-- What each takes without its types: so much, and six bytes for each of its parameters.
sum_cost : {A : Type 0} (cost base count : A → ℕ) → ((a : A) → cost a ≡ base a + 6 * count a) → (xs : List A)
    → size_of_all cost xs ≡ size_of_all base xs + 6 * size_of_all count xs
sum_cost cost base count h [] = refl
sum_cost cost base count h (x ∷ xs) = omega (arith, h x, sum_cost cost base count h xs)

each : {A : Type 0} (n : ℕ) (xs : List A) → size_of_all (λ a. n) xs ≡ n * length xs
each n [] = sym (mul-zero n)
each n (x ∷ xs) = rw (each n xs, mul-suc n (length xs), add_comm n (n * length xs))

parameters-each : (ps : List Parameter) → size_of_all (λ p. 1) ps ≡ length ps
parameters-each = all_one (λ p. 1) λ p. refl

module _ (kind : ℕ) (d : Declarations) where
  abbrev rows' : List Row
  rows' = declaration_rows kind d

  members-cost : members_cost d
      ≡ 24 * length d.constructors + 29 * length d.functions + 40 * length d.properties + 13 * length d.aliases + 6 * count_kind 5 rows'
  members-cost =
      omega (
        arith,
        sum_cost constructor_cost (λ c. 24) (constructor_of 5 refl) (λ c. omega (arith, parameters-each c.parameters)) d.constructors,
        sum_cost function_cost (λ f. 29) (function_of 5 refl) (λ f. omega (arith, parameters-each f.parameters)) d.functions,
        each 24 d.constructors,
        each 29 d.functions,
        each 40 d.properties,
        each 13 d.aliases,
        kind-count 5 refl kind d,
        no-properties kind d,
        no-aliases kind d,
      )

  -- Every kind has its width, so that the others and six bytes a parameter are the whole sheet.
  pub sheet-by-kinds : length (sheet_from 0 rows')
      ≡ 23 + (24 * length d.constructors + 29 * length d.functions) + 40 * length d.properties + 13 * length d.aliases + 10 * declarations_size d
      + 6 * count_kind 5 rows'
  sheet-by-kinds = omega (arith, sheet-length 0 rows', declarations-length kind d, members-cost)

-- the division is exact
pub sixth : (whole other n : ℕ) → whole ≡ other + 6 * n → n ≡ (whole - other) / 6
sixth whole other n e = omega arith
