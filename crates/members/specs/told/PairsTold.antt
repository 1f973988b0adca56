-- Two types of one declaration, read one after the other: a parameter's and that of its vararg elements, an alias's underlying and expanded.
-- Assumes nothing.
use Rattle.std.specs.Prelude.{◌≡◌, List, ◌++◌, ℕ}
use Rattle.std.proofs.Math.Option.{Option}
use Rattle.foundation.specs.Results.{ok, ◌from◌}
use Rattle.wire.specs.Wire.{Message, cut}
use Rattle.sheet.specs.Rows.{Row}
use Rattle.sheet.specs.declared.State.{State}
use Rattle.declaration_rows.specs.Declarations.{Ty}
use Rattle.declaration_rows.specs.Rows.{type_rows}
use Rattle.declaration_rows.specs.told.Written.{role_number}
use Rattle.schema.specs.Reading.{Read, pure, ◌>>=◌, Scope}
use Rattle.schema.specs.Types.{declared_type}
use Rattle.schema.specs.told.SchemaTold.{Lent, Scoped, WalkedSpends, WalkedTold}
use Rattle.members.specs.declared.pairs.TypePair.{TypePair}
use Rattle.schema.specs.told.SchemaTold.{Walked}

-- two readings, one after the other
abbrev pub both : {A B : Type 0} → Read A → Read B → Read (A × B)
both {A} {B} f g = f >>= λ a. g >>= λ b. pure {A = A × B} (a, b)

abbrev pub pair_in : TypePair → Scope → Message → Read (Option Ty × Option Ty)
pair_in p c m =
    both (declared_type c p.first.inline p.first.indexed m) (declared_type c p.second.inline p.second.indexed m)

abbrev pub pair_rows : TypePair → Option Ty × Option Ty → List Row
pair_rows p ts = type_rows (role_number p.first.role) ts.0 ++ type_rows (role_number p.second.role) ts.1

pub record PairTold (p : TypePair) (e : Lent) (msg : List ℕ) (base : ℕ) (s : State) (r : Walked) (S S' T T' : List ℕ) : Type 0 where
  pub spends : WalkedSpends s r
  pub is : (c : Scope) → Scoped e c → (m : Message) → cut (◌from◌ base msg) ≡ ok m → WalkedTold (pair_in p c m s.types) (pair_rows p) s r S S' T T'
