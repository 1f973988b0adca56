-- What is told of a list whose messages are cut already.
-- Assumes nothing.
use Rattle.std.specs.Prelude.{◌≡◌, List, ℕ}
use Rattle.std.proofs.Math.Option.{Option}
use Rattle.foundation.specs.Results.{ok, ◌from◌}
use Rattle.wire.specs.Wire.{Message, cut}
use Rattle.wire.specs.Messages.{messages}
use Rattle.sheet.specs.Rows.{Row}
use Rattle.sheet.specs.declared.State.{State}
use Rattle.schema.specs.Reading.{Read, kept, Scope}
use Rattle.schema.specs.told.SchemaTold.{Lent, Scoped}
use Rattle.schema.specs.told.MembersTold.{ListWalked, ListedWithin, ListedTold}

-- The list of members in a field, all of whose messages can be cut.
pub record ListAtTold {A : Type 0} (read : Scope → Message → Read (Option A)) (rows : A → List Row) (cost : ℕ) (e : Lent) (msg : List ℕ) (base number : ℕ) (s : State) (r : ListWalked) (S S' T T' : List ℕ) : Type 0 where
  pub spends : ListedWithin cost s r
  pub is : (c : Scope) → Scoped e c → (m : Message) → cut (◌from◌ base msg) ≡ ok m → (ms : List Message) → messages number m ≡ ok ms
      → ListedTold (kept (read c) ms s.types) rows s r S S' T T'
