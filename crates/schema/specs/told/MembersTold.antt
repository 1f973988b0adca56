-- What the readers of members tell.
-- Assumes nothing.
use Rattle.std.specs.Prelude.{◌≡◌, List, map, ℕ, ◌+◌, ◌*◌, ◌^◌, ◌≤◌, length}
use Rattle.std.proofs.Math.Option.{Option}
use Rattle.std.specs.declared.option.Option.TheVariants.{Some, None}
use Rattle.std.specs.declared.result.Result.{Result}
use Rattle.std.specs.declared.result.Result.TheVariants.{Ok, Err}
use Rattle.foundation.specs.Choices.{concat}
use Rattle.foundation.specs.Results.{Res, ok, ◌from◌}
use Rattle.wire.specs.Wire.{Message, cut}
use Rattle.sheet.specs.Rows.{Row}
use Rattle.sheet.specs.told.Put.{PutRows}
use Rattle.sheet.specs.declared.State.{State}
use Rattle.schema.specs.Reading.{Read, Scope, allowance}
use Rattle.schema.specs.Members.{list_in}
use Rattle.schema.specs.told.SchemaTold.{Lent, Scoped, type_length, name_limit, Picked, stop_refused, PickedTold}
use Rattle.schema.specs.declared.Stop.{Stop}
use Rattle.schema.specs.declared.Section.{Section}

-- the answer of the reader of a list: what was read is written, up to a state, and how many are kept
abbrev pub ListWalked : Type 0
ListWalked = Result Section Stop

abbrev pub section : State → ℕ → Section
section s count = record { state = s; count = count }

-- What is counted: the places in both areas, and the most that the types take which may still be entered.
abbrev pub counted : State → ℕ
counted s = s.sheet + s.text + (type_length + name_limit) * s.types

-- What a reader of members starts from: decoded bytes and d2 of 32,768 at most, and n bytes more that can be counted. No invariant: n is a
-- number of each call, and functions that ask for nothing take a `Context` and an `Output` too.
pub record Affords (e : Lent) (n : ℕ) (s : State) : Type 0 where
  pub payload-short : length e.payload ≤ 32768
  pub d2-short : length e.d2 ≤ 32768
  pub types : s.types ≤ allowance
  pub room : counted s + n ≤ 2 ^ 61

-- No more than n bytes are written beside the types.
pub record Within (n : ℕ) (s s' : State) : Type 0 where
  pub counts : counted s' ≤ counted s + n
  pub types : s'.types ≤ s.types

abbrev pub PickedWithin : ℕ → State → Picked → Type 0
PickedWithin n s (Ok (Some s')) = Within n s s'
PickedWithin n s (Ok None) = Unit {0}
PickedWithin n s (Err stop) = Unit {0}

abbrev pub ListedWithin : ℕ → State → ListWalked → Type 0
ListedWithin n s (Ok x) = Within n s x.state
ListedWithin n s (Err stop) = Unit {0}

-- What a parameter takes beside its types; what another member does, whose message has n bytes; the same with its default descriptor.
abbrev pub parameter_cost : ℕ
parameter_cost = 2 ^ 18

abbrev pub member_cost : ℕ → ℕ
member_cost n = 2 ^ 20 * (1 + n)

abbrev pub closed_cost : ℕ → ℕ
closed_cost n = 2 ^ 25 * (1 + n)

-- A list is written, each in its rows, or refused.
abbrev pub ListedTold : {A : Type 0} → Res (List A × ℕ) → (A → List Row) → State → ListWalked → (S S' T T' : List ℕ) → Type 0
ListedTold {A} r rows s (Ok x) S S' T T' =
    (xs : List A) × (b : ℕ) × (r ≡ ok (xs, b)) × (x.count ≡ length xs) × PutRows (concat (map rows xs)) b s x.state S S' T T'
ListedTold r rows s (Err stop) S S' T T' = r ≡ stop_refused stop

-- A member in the message msg, which stands at base among the decoded bytes.
pub record MemberTold {A : Type 0} (read : Scope → Message → Read (Option A)) (rows : A → List Row) (cost : ℕ) (e : Lent) (msg : List ℕ) (base : ℕ) (s : State) (r : Picked) (S S' T T' : List ℕ) : Type 0 where
  pub spends : PickedWithin cost s r
  pub is : (c : Scope) → Scoped e c → (m : Message) → cut (◌from◌ base msg) ≡ ok m → PickedTold (read c m s.types) rows s r S S' T T'

-- The list of members in a field.
pub record ListTold {A : Type 0} (read : Scope → Message → Read (Option A)) (rows : A → List Row) (cost : ℕ) (e : Lent) (msg : List ℕ) (base number : ℕ) (s : State) (r : ListWalked) (S S' T T' : List ℕ) : Type 0 where
  pub spends : ListedWithin cost s r
  pub is : (c : Scope) → Scoped e c → (m : Message) → cut (◌from◌ base msg) ≡ ok m
      → ListedTold (list_in (read c) number m s.types) rows s r S S' T T'
