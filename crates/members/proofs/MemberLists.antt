-- The members of a body by their kind.
-- Assumes nothing.
use mathlib.Core.Path.{◌≡◌, sym, subst}
use mathlib.Core.Bool.{Bool, false}
use mathlib.Core.List.{List}
use mathlib.Core.Option.{Option}
use Prim.Native.Nat.{ℕ, ◌≤◌}
use Rattle.wire.specs.Wire.{Message}
use Rattle.sheet.specs.Rows.{Row}
use Rattle.sheet.specs.declared.State.{State}
use Rattle.sheet.specs.declared.Output.{Output}
use Rattle.schema.specs.Reading.{Scope, Read}
use Rattle.schema.specs.told.SchemaTold.{Lent}
use Rattle.schema.specs.told.MembersTold.{PickedWithin, MemberTold}
use Rattle.schema.proofs.CountLaws.{within_less}
use Rattle.members.specs.Lists.{member_in, member_rows}
use Rattle.members.specs.declared.list.Member.{Member}
use Rattle.std.specs.declared.option.Option.TheVariants.{Some, None}
use Rattle.std.specs.declared.result.Result.{Result}
use Rattle.std.specs.declared.result.Result.TheVariants.{Ok, Err}
use Rattle.schema.specs.declared.Stop.{Stop}
use Rattle.schema.specs.told.WroteTold.{Stays}
use Rattle.schema.specs.told.SchemaTold.{Picked}

-- what is dropped leaves the state as it was
pub stayed : {r : Result Bool Stop} (o o' : Output) → Stays r o o' → r ≡ Ok false → o'.state ≡ o.state
stayed o o' h e = subst (λ (r : Result Bool Stop). Stays r o o') e h

within_more : {n m : ℕ} (s : State) (r : Picked) → n ≤ m → PickedWithin n s r → PickedWithin m s r
within_more {m = m} s (Ok (Some s')) h p = within_less m h p
within_more s (Ok None) h p = p
within_more s (Err stop) h p = p

pub costs_less : {A : Type 0} {read : Scope → Message → Read (Option A)} {rows : A → List Row} {n m : ℕ} {e : Lent} {msg : List ℕ} {base : ℕ} {s : State} {r : Picked}
    {S S' T T' : List ℕ} → n ≤ m → MemberTold read rows n e msg base s r S S' T T' → MemberTold read rows m e msg base s r S S' T T'
costs_less {s = s} {r = r} h t = record { spends = within_more s r h t.spends; is = t.is }

pub of-kind : {cost : ℕ} {e : Lent} {msg : List ℕ} {base : ℕ} {s : State} {r : Picked} {S S' T T' : List ℕ} {k : Member} (x : Member) → k ≡ x
    → MemberTold (member_in x) (member_rows x) cost e msg base s r S S' T T' → MemberTold (member_in k) (member_rows k) cost e msg base s r S S' T T'
of-kind {cost} {e} {msg} {base} {s} {r} {S} {S'} {T} {T'} x q t =
    subst (λ (y : Member). MemberTold (member_in y) (member_rows y) cost e msg base s r S S' T T') (sym q) t
