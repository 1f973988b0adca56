-- What is told of a declaration's own type, which may not be there.
-- Assumes nothing.
use Rattle.std.specs.Prelude.{◌≡◌, List, ℕ}
use Rattle.foundation.specs.Results.{ok, ◌from◌}
use Rattle.wire.specs.Wire.{Message, cut}
use Rattle.sheet.specs.declared.State.{State}
use Rattle.schema.specs.Types.{declared_type}
use Rattle.schema.specs.Reading.{Scope}
use Rattle.declaration_rows.specs.Rows.{type_rows}
use Rattle.schema.specs.told.SchemaTold.{Lent, Scoped, WalkedSpends, WalkedTold}
use Rattle.schema.specs.told.TypesTold.{ResolveTold}
use Rattle.std.specs.declared.option.Option.TheVariants.{Some, None}
use Rattle.std.specs.declared.result.Result.TheVariants.{Ok, Err}
use Rattle.schema.specs.told.SchemaTold.{Walked, Picked}

-- what is there or not, as what is done: nothing is written of what isn't there
abbrev pub optional_of : State → Picked → Walked
optional_of s (Ok (Some s')) = Ok s'
optional_of s (Ok None) = Ok s
optional_of s (Err stop) = Err stop

-- a type by its index
pub record LookedTold (e : Lent) (index left role projection : ℕ) (s : State) (r : Walked) (S S' T T' : List ℕ) : Type 0 where
  pub found : Picked
  pub told : ResolveTold e index left role projection s found S S' T T'
  pub is : r ≡ optional_of s found

-- the type and its rows, or nothing and none
pub record OptionalTold (e : Lent) (msg : List ℕ) (base inline indexed role : ℕ) (s : State) (r : Walked) (S S' T T' : List ℕ) : Type 0 where
  pub spends : WalkedSpends s r
  pub is : (c : Scope) → Scoped e c → (m : Message) → cut (◌from◌ base msg) ≡ ok m
      → WalkedTold (declared_type c inline indexed m s.types) (type_rows role) s r S S' T T'
