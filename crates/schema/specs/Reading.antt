-- A reading counts the types that may still be entered: it takes their number and leaves the number after it.
-- Assumes nothing.
use Rattle.std.specs.Prelude.{List, [], ◌∷◌, ℕ, zero, suc}
use Rattle.std.proofs.Math.Option.{Option, none, some}
use Rattle.foundation.specs.Choices.{if_some}
use Rattle.foundation.specs.Results as Results
use Rattle.foundation.specs.Results.{Res, ok, refused, too_many_types}
use Rattle.foundation.specs.Texts.{Text}
use Rattle.wire.specs.Wire.{Message}
use Rattle.wire.specs.Messages.{index}
use Rattle.names.specs.Names.{Names, string, qualified_name}

-- how many types one class may have
abbrev pub allowance : ℕ
allowance = 2048

abbrev pub Read : Type 0 → Type 0
Read A = ℕ → Res (A × ℕ)

abbrev pub pure : {A : Type 0} → A → Read A
pure a left = ok (a, left)

infixl 20 ◌>>=◌
abbrev pub ◌>>=◌ : {A B : Type 0} → Read A → (A → Read B) → Read B
◌>>=◌ m f left = Results.◌>>=◌ (m left) λ r. f r.0 r.1

abbrev pub lift : {A : Type 0} → Res A → Read A
lift r left = Results.◌>>=◌ r λ a. pure a left

-- a type is entered, or is one too many
abbrev pub enter : {A : Type 0} → Read A → Read A
enter m zero = refused too_many_types 0
enter m (suc left) = m left

abbrev pub keep : {A : Type 0} → Option A → List A → List A
keep none xs = xs
keep (some x) xs = x ∷ xs

-- what f reads of each, one after the other; what isn't there is left out
unfoldable pub kept : {A : Type 0} → (Message → Read (Option A)) → List Message → Read (List A)
kept f [] = pure []
kept f (m ∷ ms) = f m >>= λ a. kept f ms >>= λ xs. pure (keep a xs)

-- what f reads of each, one after the other; all of it is there
unfoldable pub each : {A : Type 0} → (Message → Read A) → List Message → Read (List A)
each f [] = pure []
each f (m ∷ ms) = f m >>= λ a. each f ms >>= λ xs. pure (a ∷ xs)

-- The type table: its entries, and from which of them on all are nullable.
pub record TypeTable : Type 0 where
  pub types : List Message
  pub first_nullable : Option ℕ

-- what a class or package hands down to its declarations
pub record Scope : Type 0 where
  pub names : Names
  pub table : TypeTable

abbrev pub scope : Names → TypeTable → Scope
scope n t = record { names = n; table = t }

-- the string at the index in field n
unfoldable pub name_in : Scope → ℕ → Message → Read (Option Text)
name_in s n m = if_some (index n m) (pure none) λ i. lift (string s.names i)

-- the class name at the index in field n
unfoldable pub class_name_in : Scope → ℕ → Message → Read (Option Text)
class_name_in s n m = if_some (index n m) (pure none) λ i. lift (qualified_name s.names i)
