-- What is promised of the default descriptors of any two accepted answers, on the bytes of their areas.
-- Assumes nothing.
use Rattle.std.specs.Prelude.{◌≡◌, List, [], ◌++◌, map, ℕ}
use Rattle.std.proofs.Math.Option.{Option}
use Rattle.foundation.specs.Choices.{if_some, All}
use Rattle.foundation.specs.Results.{Res, ok, refused}
use Rattle.declaration_rows.specs.Declarations.{Constructor, Function, Declarations}
use Rattle.inputs.specs.Inputs.{Input}
use Rattle.inputs.specs.Outcomes.{Answer}
use Rattle.metadata.specs.Read.{reading}
use Rattle.promises.specs.Walk.{walk, Closed}
use Rattle.promises.specs.Promises.{sheet_bytes, text_bytes}
use Rattle.defaults.specs.Messages.{FunctionByMessages, ConstructorByMessages}
use Rattle.defaults.specs.Descriptor.{ToldFunction, ToldConstructor, SameText}

-- what is declared, and the text at the ref of the kind 7 that closes it: none is what the ref says is absent
abbrev pub Described : Type 0 → Type 0
Described A = A × Option (List ℕ)

abbrev pub described : {A : Type 0} → Closed A → Described A
described c = (c.declared, c.default)

-- the functions on a sheet, in order, as a walk takes them that believes each count
unfoldable pub functions_on : Answer → List (Described Function)
functions_on a = if_some (walk (sheet_bytes a) (text_bytes a)) [] λ s. map described s.functions

unfoldable pub constructors_on : Answer → List (Described Constructor)
constructors_on a = if_some (walk (sheet_bytes a) (text_bytes a)) [] λ s. map described s.constructors

abbrev pub functions_in : Res (Declarations × ℕ) → List Function
functions_in (ok r) = r.0.functions
functions_in (refused c p) = []

-- the unskipped functions of the definitions' reading of the input
unfoldable pub functions_of : Input → List Function
functions_of i = functions_in (reading i)

-- Of the functions on one sheet or on two
pub record Demand (i j : Input) (a b : Answer) : Type 0 where
  -- (which are those that the input was read as, in order,
  pub first : map (λ x. x.0) (functions_on a) ≡ functions_of i
  pub second : map (λ x. x.0) (functions_on b) ≡ functions_of j
  -- each of them with a parameter, and a part, for every one of its parameter messages),
  pub messages : All (λ x. FunctionByMessages i x.0) (functions_on a) × All (λ x. FunctionByMessages j x.0) (functions_on b)
  -- each has a default descriptor exactly when every type it needs has one, put together from its erased parts, in the grammar and cut
  -- by it into just these parts,
  pub each : All (λ x. ToldFunction x.0 x.1) (functions_on a ++ functions_on b)
  -- and any two print the same text exactly when their erased parts are equal.
  pub same : All (λ x. All (SameText x) (functions_on a ++ functions_on b)) (functions_on a ++ functions_on b)
  -- This far it is of functions alone. Each constructor has its default descriptor by the same rule.
  pub constructors : All (λ x. ToldConstructor x.0 x.1) (constructors_on a ++ constructors_on b)
  pub constructor_messages : All (λ x. ConstructorByMessages i x.0) (constructors_on a) × All (λ x. ConstructorByMessages j x.0) (constructors_on b)
