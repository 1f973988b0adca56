-- What the readers of parameters tell. A parameter is never skipped, so it is written or refused.
-- Assumes nothing.
use Rattle.std.specs.Prelude.{◌≡◌, List, ℕ, ◌*◌, length}
use Rattle.foundation.specs.Results.{ok, ◌from◌}
use Rattle.wire.specs.Wire.{Message, cut}
use Rattle.wire.specs.Messages.{messages}
use Rattle.sheet.specs.declared.State.{State}
use Rattle.sheet.specs.declared.Output.{Output}
use Rattle.declaration_rows.specs.Rows.{parameter_rows}
use Rattle.schema.specs.Reading.{each, Scope}
use Rattle.schema.specs.Members.{parameter_in, parameters_in}
use Rattle.schema.specs.told.SchemaTold.{Lent, Scoped, WalkedTold}
use Rattle.schema.specs.told.MembersTold.{section, Within, ListedWithin, ListedTold, parameter_cost}
use Rattle.schema.specs.declared.Stop.{Stop}
use Rattle.std.specs.declared.result.Result.{Result}
use Rattle.std.specs.declared.result.Result.TheVariants.{Ok, Err}
use Rattle.schema.specs.told.SchemaTold.{Walked}
use Rattle.schema.specs.told.MembersTold.{ListWalked}

-- so many are written, up to the state that is left
abbrev pub section_told : Result ℕ Stop → Output → ListWalked
section_told (Ok count) o = Ok (section o.state count)
section_told (Err stop) o = Err stop

abbrev pub WalkedWithin : ℕ → State → Walked → Type 0
WalkedWithin n s (Ok s') = Within n s s'
WalkedWithin n s (Err stop) = Unit {0}

-- A parameter in the message msg, which stands at base among the decoded bytes.
pub record ParameterTold (e : Lent) (msg : List ℕ) (base : ℕ) (s : State) (r : Walked) (S S' T T' : List ℕ) : Type 0 where
  pub spends : WalkedWithin parameter_cost s r
  pub is : (c : Scope) → Scoped e c → (m : Message) → cut (◌from◌ base msg) ≡ ok m → WalkedTold (parameter_in c m s.types) parameter_rows s r S S' T T'

-- The parameters in a field, all of whose messages can be cut.
pub record ParametersAtTold (e : Lent) (msg : List ℕ) (base number : ℕ) (s : State) (r : ListWalked) (S S' T T' : List ℕ) : Type 0 where
  pub spends : ListedWithin (parameter_cost * length msg) s r
  pub is : (c : Scope) → Scoped e c → (m : Message) → cut (◌from◌ base msg) ≡ ok m → (ms : List Message) → messages number m ≡ ok ms
      → ListedTold (each (parameter_in c) ms s.types) parameter_rows s r S S' T T'

-- The parameters in a field.
pub record ParametersInTold (e : Lent) (msg : List ℕ) (base number : ℕ) (s : State) (r : ListWalked) (S S' T T' : List ℕ) : Type 0 where
  pub spends : ListedWithin (parameter_cost * length msg) s r
  pub is : (c : Scope) → Scoped e c → (m : Message) → cut (◌from◌ base msg) ≡ ok m
      → ListedTold (parameters_in c number m s.types) parameter_rows s r S S' T T'
