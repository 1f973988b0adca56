-- Types in code: what each answer tells, from what the calls told.
-- Assumes nothing.
use mathlib.Core.Path.{◌≡◌, refl, ap, sym, subst, ◌∙◌}
use mathlib.Core.Bool.{Bool, true, false}
use mathlib.Core.List.{List}
use mathlib.Core.Option.{Option, none, some}
use Prim.Native.Nat.{ℕ, ◌+◌, ◌-◌, ◌≤◌, ◌<◌}
use native.Mathlib.Omega.{arith}
use borrow.Author.Tests.{lt-ltb, le-ltb}
use lib.Dec.{leb, ltb}
use lib.ListN.{length, take, drop, get_elem?}
use Rattle.std.specs.Prelude.{if◌then◌else◌}
use Rattle.std.specs.declared.option.Option.TheVariants.{None}
use Rattle.std.specs.declared.result.Result.TheVariants.{Ok, Err}
use Rattle.foundation.specs.Choices.{if_some}
use Rattle.foundation.specs.Results as Results
use Rattle.foundation.specs.Results.{Res, ok, ◌from◌}
use Rattle.wire.specs.Wire.{Message, cut}
use Rattle.wire.specs.Messages.{index}
use Rattle.messages.specs.told.Asked.{EmbeddedIs, EmbeddedInside, EmbeddedTold, index_told}
use Rattle.wire.specs.declared.WireError.{WireError}
use Rattle.sheet.specs.Rows.{Row}
use Rattle.sheet.specs.declared.State.{State}
use Rattle.declaration_rows.specs.Declarations.{invariant, Ty}
use Rattle.schema.specs.Reading.{Read, pure, Scope, allowance}
use Rattle.schema.specs.Types.{max_depth, resolve_at, type_in, type_at, declared_type}
use Rattle.schema.specs.told.SchemaTold.{entry_nullable, Lent, Walked, Picked, entries_in, Scoped, Ready, Spends, WalkedSpends, PickedSpends, WalkedTold, PickedTold}
use Rattle.schema.specs.told.TypesTold.{or_nullable, rows_in, picked_of, EntryIs, EntryTold, ParseTold, ResolveTold, TypeInTold, DeclaredTold}
use Rattle.schema.specs.declared.Stop.TheVariants as stop
use Rattle.std.specs.declared.option.Option as rust
use Rattle.std.specs.declared.option.Option.TheVariants.{Some}
use Rattle.std.specs.declared.result.Result.{Result}
use Rattle.foundation.specs.declared.Span.{Span}
use Rattle.messages.specs.told.Asked.{span}

-- Room is kept by what spends no more than is counted.
pub spends_none : (s : State) → Spends s s
spends_none s = record { sheet = omega arith; text = omega arith; types = omega arith }

pub spends_then : {s s₁ s₂ : State} → Spends s s₁ → Spends s₁ s₂ → Spends s s₂
spends_then p q = record {
  sheet = omega (arith, p.sheet, q.sheet);
  text = omega (arith, p.text, q.text);
  types = omega (arith, p.types, q.types);
}

pub ready-after : {e : Lent} {s s' : State} → Ready e s → Spends s s' → Ready e s'
ready-after h p = record {
  payload-short = h.payload-short;
  d2-short = h.d2-short;
  room = record {
    sheet = omega (arith, p.sheet, h.room.sheet);
    text = omega (arith, p.text, h.room.text);
    types = omega (arith, p.types, h.room.types);
  };
}

-- What was walked is what may not be there.
picked_spends : (s : State) (w : Walked) → WalkedSpends s w → PickedSpends s (picked_of w)
picked_spends s (Ok s') h = h
picked_spends s (Err stop) h = h

picked_told : {A : Type 0} (r : Res (A × ℕ)) (r' : Res (Option A × ℕ)) (rows : A → List Row) (f : A → A) (s : State) (w : Walked) (S S' T T' : List ℕ)
    → r' ≡ Results.◌>>=◌ r (λ q. pure (some (f q.0)) q.1) → WalkedTold r (λ a. rows (f a)) s w S S' T T'
    → PickedTold r' rows s (picked_of w) S S' T T'
picked_told r r' rows f s (Ok s') S S' T T' e (a, b, q, p) = (f a, b, e ∙ rw q, p)
picked_told r r' rows f s (Err stop) S S' T T' e q = e ∙ rw q

-- A type in a message.
pub inline_in : (base : ℕ) (msg : List ℕ) (n : ℕ) {x : Result (rust.Option Span) WireError} → EmbeddedTold base msg n x → {a b : ℕ} → x ≡ Ok (Some (span a b))
    → (a ≤ b) × (b ≤ length msg)
inline_in base msg n t g = let i = subst (EmbeddedInside msg) g t.inside in (i.0, i.1)

module _ (e : Lent) (msg : List ℕ) (base inline by_index left role : ℕ) (s : State) {x : Result (rust.Option Span) WireError} (t : EmbeddedTold base msg inline x) where
  here : {y : Result (rust.Option Span) WireError} → x ≡ y → (m : Message) → cut (◌from◌ base msg) ≡ ok m → EmbeddedIs base msg inline m y
  here g m k = subst (EmbeddedIs base msg inline m) g (t.is m k)

  pub type-inline : {a b : ℕ} → x ≡ Ok (Some (span a b)) → {w : Walked} {r : Picked} {S S' T T' : List ℕ}
      → ParseTold e (take (b - a) (drop a msg)) (base + a) left role invariant false s w S S' T T' → r ≡ picked_of w
      → TypeInTold e msg base inline by_index left role s r S S' T T'
  unfolding type_in
  type-inline g {w} {r} {S} {S'} {T} {T'} p q =
      let told : TypeInTold e msg base inline by_index left role s (picked_of w) S S' T T' = record {
        spends = picked_spends s w p.spends;
        is = λ c o m k d l.
            let i = here g m k in
            picked_told _ _ (rows_in role invariant) (or_nullable false) s w S S' T T' (rw i.2) (p.is c o i.0 i.1 d l);
      } in
      subst (λ (y : Picked). TypeInTold e msg base inline by_index left role s y S S' T T') (sym q) told

  pub type-refused : {error : WireError} → x ≡ Err error → {S S' T T' : List ℕ}
      → TypeInTold e msg base inline by_index left role s (Err (stop.Wire error)) S S' T T'
  unfolding type_in
  type-refused g = record { spends = tt; is = λ c o m k d l. rw (here g m k) }

  module _ (g : x ≡ Ok None) {y : rust.Option ℕ} (i : (m : Message) → cut (◌from◌ base msg) ≡ ok m → index by_index m ≡ index_told y) where
    pub type-nowhere : y ≡ None → {S T : List ℕ} → TypeInTold e msg base inline by_index left role s (Ok None) S S T T
    unfolding type_in
    type-nowhere h = record { spends = tt; is = λ c o m k d l. (rw (here g m k, i m k, h), refl, refl) }

    pub type-indexed : {n : ℕ} → y ≡ Some n → {r : Picked} {S S' T T' : List ℕ} → ResolveTold e n left role invariant s r S S' T T'
        → TypeInTold e msg base inline by_index left role s r S S' T T'
    unfolding type_in
    type-indexed {n} h {r} {S} {S'} {T} {T'} p = record {
      spends = p.spends;
      is = λ c o m k d l.
          let f : type_in (type_at allowance c) c d inline by_index m s.types ≡ resolve_at (type_at allowance c) c d n s.types = rw (here g m k, i m k, h) in
          subst (λ (q : Res (Option Ty × ℕ)). PickedTold q (rows_in role invariant) s r S S' T T') (sym f) (p.is c o d l);
    }

-- A declaration's own type, at depth 0.
pub declared : {e : Lent} {msg : List ℕ} {base inline by_index role : ℕ} {s : State} {r : Picked} {S S' T T' : List ℕ}
    → TypeInTold e msg base inline by_index max_depth role s r S S' T T' → DeclaredTold e msg base inline by_index role s r S S' T T'
unfolding declared_type
declared p = record { spends = p.spends; is = λ c o m k. p.is c o m k 0 refl }

-- A type by its index.
if_same : {A : Type 0} (t : Bool) (a : A) → (if t then a else a) ≡ a
if_same true a = refl
if_same false a = refl

nothing : Read (Option Ty)
nothing = pure none

pub resolve_nothing : (c : Scope) (d i n : ℕ) → get_elem? c.table.types i ≡ none → resolve_at (type_at allowance c) c d i n ≡ ok (none, n)
unfolding resolve_at nothing
resolve_nothing c d i n h = rw h (ap (λ (m : Read (Option Ty)). m n) (if_same (ltb d max_depth) nothing))

pub resolve_deep : (c : Scope) (d i n : ℕ) → max_depth ≤ d → resolve_at (type_at allowance c) c d i n ≡ ok (none, n)
unfolding resolve_at
resolve_deep c d i n h = rw (le-ltb d max_depth h)

-- the entries from the first nullable one on
from_first : (f : rust.Option ℕ) (i : ℕ) → if_some (index_told f) false (λ k. leb k i) ≡ entry_nullable f i
from_first (Some first) i = refl
from_first None i = refl

pub resolve_entry : (c : Scope) (first : rust.Option ℕ) → c.table.first_nullable ≡ index_told first → (d i n : ℕ) (m : Message) → d < max_depth
    → get_elem? c.table.types i ≡ some m → resolve_at (type_at allowance c) c d i n
    ≡ Results.◌>>=◌ (type_at allowance c (d + 1) m n) (λ q. pure (some (or_nullable (entry_nullable first i) q.0)) q.1)
unfolding resolve_at
resolve_entry c first f d i n m h g = rw (lt-ltb d max_depth h, g, f, from_first first i)

module _ (e : Lent) (i left role projection : ℕ) (s : State) where
  pub resolve-none-left : left ≡ 0 → {S T : List ℕ} → ResolveTold e i left role projection s (Ok None) S S T T
  resolve-none-left h = record { spends = tt; is = λ c o d l. (resolve_deep c d i s.types (omega arith), refl, refl) }

  module _ {x : rust.Option Span} (t : EntryTold e.payload (entries_in e.tables e.notes) e.tables.types i x) where
    found : {y : rust.Option Span} → x ≡ y → (c : Scope) → Scoped e c → EntryIs e.payload (get_elem? c.table.types i) y
    found g c o = subst (EntryIs e.payload (get_elem? c.table.types i)) g (t.is c.table.types o.entries)

    pub resolve-nowhere : x ≡ None → {S T : List ℕ} → ResolveTold e i left role projection s (Ok None) S S T T
    resolve-nowhere g = record { spends = tt; is = λ c o d l. (resolve_nothing c d i s.types (found g c o), refl, refl) }

    pub resolve-found : {a b : ℕ} → x ≡ Some (span a b) → (left ≡ 0 → ⊥)
        → {n : Bool} → n ≡ entry_nullable e.tables.first_nullable i → {w : Walked} {r : Picked} {S S' T T' : List ℕ}
        → ParseTold e (take (b - a) (drop a e.payload)) a (left - 1) role projection n s w S S' T T' → r ≡ picked_of w
        → ResolveTold e i left role projection s r S S' T T'
    resolve-found g h {n} f {w} {r} {S} {S'} {T} {T'} p q =
        let told : ResolveTold e i left role projection s (picked_of w) S S' T T' = record {
          spends = picked_spends s w p.spends;
          is = λ c o d l.
              let j = found g c o in
              let deep : d < max_depth = omega arith in
              let at : resolve_at (type_at allowance c) c d i s.types
              ≡ Results.◌>>=◌ (type_at allowance c (d + 1) j.0 s.types) (λ q. pure (some (or_nullable n q.0)) q.1) =
              rw f (resolve_entry c e.tables.first_nullable o.nullable d i s.types j.0 deep j.1) in
              picked_told _ _ (rows_in role projection) (or_nullable n) s w S S' T T' at (p.is c o j.0 j.2 (d + 1) (omega arith));
        } in
        subst (λ (y : Picked). ResolveTold e i left role projection s y S S' T T') (sym q) told
