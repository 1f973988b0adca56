-- Two types of one declaration in code, and a declaration of a name and two types.
-- Assumes nothing.
use mathlib.Core.Path.{◌≡◌, refl, ap, sym, subst, ◌∙◌}
use mathlib.Core.Bool.{Bool, false}
use mathlib.Core.List.{List, [], ◌∷◌, ◌++◌}
use mathlib.Core.Option.{Option, none, some}
use Prim.Native.Nat.{ℕ}
use native.Mathlib.Omega.{arith}
use Rattle.foundation.specs.Choices.{is_some}
use Rattle.foundation.specs.Results as Results
use Rattle.foundation.specs.Results.{Res, ok, refused, ◌from◌}
use Rattle.foundation.specs.Texts.{Text}
use Rattle.foundation.proofs.PresenceLaws.{none_is}
use Rattle.wire.specs.Wire.{Message, cut}
use Rattle.names.specs.told.Name.{name_text}
use Rattle.names.specs.declared.name.Name.{Name}
use Rattle.sheet.specs.Rows.{Row}
use Rattle.sheet.specs.told.Put.{PutRows}
use Rattle.sheet.specs.declared.State.{State}
use Rattle.sheet.proofs.PutLaws.{put-types, rows_then}
use Rattle.declaration_rows.specs.Declarations.{Ty}
use Rattle.declaration_rows.specs.Rows.{type_rows}
use Rattle.declaration_rows.specs.told.Written.{role_number}
use Rattle.schema.specs.Reading.{Read, pure, ◌>>=◌, Scope, name_in}
use Rattle.schema.specs.Types.{declared_type}
use Rattle.schema.specs.told.SchemaTold.{Lent, NamesOf, Scoped, Spends, WalkedSpends, WalkedTold, PickedTold}
use Rattle.schema.specs.told.TypesTold.{picked_of}
use Rattle.schema.specs.told.MembersTold.{Within, PickedWithin, MemberTold}
use Rattle.type_references.specs.told.OptionalTold.{OptionalTold}
use Rattle.members.specs.told.PairsTold.{both, pair_in, pair_rows, PairTold}
use Rattle.members.specs.declared.pairs.TypePair.{TypePair}
use Rattle.schema.specs.declared.Stop.{Stop}
use Rattle.schema.proofs.TypeLaws.{spends_then}
use Rattle.schema.proofs.CountLaws.{within_both, spends-within}
use Rattle.std.specs.declared.option.Option as rust
use Rattle.std.specs.declared.option.Option.TheVariants.{None}
use Rattle.std.specs.declared.result.Result.TheVariants.{Ok, Err}
use Rattle.schema.specs.told.SchemaTold.{Walked, Picked}

-- Readings one after the other, and what is written of them.
pub walked_spends : (s s₁ : State) (w : Walked) → Spends s s₁ → WalkedSpends s₁ w → WalkedSpends s w
walked_spends s s₁ (Ok s₂) p q = spends_then p q
walked_spends s s₁ (Err stop) p q = tt

module _ {A B : Type 0} (f : Read A) (g : Read B) where
  -- what is made of both
  pub both-made : {C : Type 0} (k : A → B → C) (l : ℕ) → (f >>= λ a. g >>= λ b. pure (k a b)) l ≡ (both f g >>= λ p. pure (k p.0 p.1)) l
  both-made {C} k l = go (f l)
    where
      last : (a : A) (q : Res (B × ℕ))
          → Results.◌>>=◌ q (λ y. pure (k a y.0) y.1)
          ≡ Results.◌>>=◌ (Results.◌>>=◌ q λ y. pure {A = A × B} (a, y.0) y.1) (λ z. pure (k z.0.0 z.0.1) z.1)
      last a (ok y) = refl
      last a (refused c p) = refl

      go : (r : Res (A × ℕ))
          → Results.◌>>=◌ r (λ x. (g >>= λ b. pure (k x.0 b)) x.1)
          ≡ Results.◌>>=◌ (Results.◌>>=◌ r λ x. (g >>= λ b. pure {A = A × B} (x.0, b)) x.1) (λ z. pure (k z.0.0 z.0.1) z.1)
      go (ok x) = last x.0 (g x.1)
      go (refused c p) = refl

  -- the same of what may not be there
  pub both-joined : {C : Type 0} (k : A → B → C) (l : ℕ)
      → ((f >>= λ a. g >>= λ b. pure (k a b)) >>= λ x. pure (some x)) l ≡ (both f g >>= λ p. pure (some (k p.0 p.1))) l
  both-joined {C} k l = ap (λ (r : Res (C × ℕ)). Results.◌>>=◌ r λ z. pure (some z.0) z.1) (both-made k l) ∙ go (both f g l)
    where
      go : (r : Res ((A × B) × ℕ))
          → Results.◌>>=◌ (Results.◌>>=◌ r λ z. pure (k z.0.0 z.0.1) z.1) (λ z. pure (some z.0) z.1)
          ≡ Results.◌>>=◌ r (λ z. pure (some (k z.0.0 z.0.1)) z.1)
      go (ok z) = refl
      go (refused c p) = refl

  module _ (rows : A → List Row) (rows' : B → List Row) (s : State) where
    pub both-refused : (w : Walked) {stop : Stop} (S S' T T' : List ℕ) → w ≡ Err stop → WalkedTold (f s.types) rows s w S S' T T'
        → WalkedTold (both f g s.types) (λ p. rows p.0 ++ rows' p.1) s w S S' T T'
    both-refused (Ok s₁) S S' T T' e h = let z : ◌≡◌ {A = ℕ} 0 1 = cc in absurd (omega arith)
    both-refused (Err x) S S' T T' e h = rw h

    pub both-then : (s₁ : State) (w : Walked) (S S₁ S₂ T T₁ T₂ : List ℕ) → WalkedTold (f s.types) rows s (Ok s₁) S S₁ T T₁
        → WalkedTold (g s₁.types) rows' s₁ w S₁ S₂ T₁ T₂
        → WalkedTold (both f g s.types) (λ p. rows p.0 ++ rows' p.1) s w S S₂ T T₂
    both-then s₁ (Ok s₂) S S₁ S₂ T T₁ T₂ (a, n, q, p) (b, n', q', p') =
        ((a, b), n', rw (q, ← put-types p, q'), rows_then (rows a) (rows' b) p p')
    both-then s₁ (Err x) S S₁ S₂ T T₁ T₂ (a, n, q, p) q' = rw (q, ← put-types p, q')

-- The first type, then the second.
module _ (p : TypePair) {e : Lent} {msg : List ℕ} {base : ℕ} {s : State} {own : Walked} {S S₁ T T₁ : List ℕ}
    (t : OptionalTold e msg base p.first.inline p.first.indexed (role_number p.first.role) s own S S₁ T T₁) where
  own_is : (c : Scope) → Scoped e c → (m : Message) → cut (◌from◌ base msg) ≡ ok m → {y : Walked} → own ≡ y
      → WalkedTold (declared_type c p.first.inline p.first.indexed m s.types) (type_rows (role_number p.first.role)) s y S S₁ T T₁
  own_is c o m k {y} q =
      subst (λ (w : Walked). WalkedTold (declared_type c p.first.inline p.first.indexed m s.types) (type_rows (role_number p.first.role)) s w S S₁ T T₁)
      q (t.is c o m k)

  pub pair-refused : {stop : Stop} → own ≡ Err stop → PairTold p e msg base s own S S₁ T T₁
  pair-refused {stop} q = record {
    spends = subst (WalkedSpends s) (sym q) tt;
    is = λ c o m k.
        both-refused (declared_type c p.first.inline p.first.indexed m) (declared_type c p.second.inline p.second.indexed m)
        (type_rows (role_number p.first.role)) (type_rows (role_number p.second.role)) s own S S₁ T T₁ q (t.is c o m k);
  }

  pub pair_then : {s₁ : State} → own ≡ Ok s₁ → {w : Walked} {S₂ T₂ : List ℕ}
      → OptionalTold e msg base p.second.inline p.second.indexed (role_number p.second.role) s₁ w S₁ S₂ T₁ T₂
      → PairTold p e msg base s w S S₂ T T₂
  pair_then {s₁} q {w} {S₂} {T₂} u = record {
    spends = walked_spends s s₁ w (subst (WalkedSpends s) q t.spends) u.spends;
    is = λ c o m k.
        both-then (declared_type c p.first.inline p.first.indexed m) (declared_type c p.second.inline p.second.indexed m)
        (type_rows (role_number p.first.role)) (type_rows (role_number p.second.role)) s s₁ w S S₁ S₂ T T₁ T₂ (own_is c o m k q) (u.is c o m k);
  }

-- The name in a field, by what was found there.
pub looked : (e : Lent) (msg : List ℕ) (base number : ℕ) {found x : rust.Option Name}
    → ((units : List ℕ) (c : Scope) → NamesOf e.payload units e.ends e.notes e.tables.records c.names
    → (m : Message) → cut (◌from◌ base msg) ≡ ok m → (l : ℕ) → name_in c number m l ≡ ok (name_text e.payload units found, l))
    → found ≡ x → (c : Scope) → Scoped e c → (m : Message) → cut (◌from◌ base msg) ≡ ok m → (l : ℕ)
    → name_in c number m l ≡ ok (name_text e.payload e.d2 x, l)
looked e msg base number i q c o m k l = i e.d2 c o.names m k l ∙ ap (λ (y : rust.Option Name). ok (name_text e.payload e.d2 y, l)) q

-- A member that is skipped without a name.
pub nameless : {A : Type 0} (read : Scope → Message → Read (Option A)) (rows : A → List Row) (cost number : ℕ) {e : Lent} {msg : List ℕ} {base : ℕ} {s : State}
    → ((c : Scope) (m : Message) (l : ℕ) → name_in c number m l ≡ ok (none, l) → read c m l ≡ ok (none, l))
    → ((c : Scope) → Scoped e c → (m : Message) → cut (◌from◌ base msg) ≡ ok m → (l : ℕ) → name_in c number m l ≡ ok (none, l)) → {S T : List ℕ}
    → MemberTold read rows cost e msg base s (Ok None) S S T T
nameless read rows cost number {s = s} skips i = record { spends = tt; is = λ c o m k. (skips c m s.types (i c o m k s.types), refl, refl) }

-- The same by a test of the name that was found.
pub pair-nameless : {A : Type 0} (read : Scope → Message → Read (Option A)) (rows : A → List Row) (cost number : ℕ) (e : Lent) (msg : List ℕ) (base : ℕ) (s : State)
    (name : rust.Option Name)
    → ((units : List ℕ) (c : Scope) → NamesOf e.payload units e.ends e.notes e.tables.records c.names
    → (m : Message) → cut (◌from◌ base msg) ≡ ok m → (l : ℕ) → name_in c number m l ≡ ok (name_text e.payload units name, l))
    → {there : Bool} → ((payload d2 : List ℕ) → is_some (name_text payload d2 name) ≡ there)
    → ((c : Scope) (m : Message) (l : ℕ) → name_in c number m l ≡ ok (none, l) → read c m l ≡ ok (none, l)) → there ≡ false → {S T : List ℕ}
    → MemberTold read rows cost e msg base s (Ok None) S S T T
pair-nameless read rows cost number e msg base s name i h skips q =
    nameless read rows cost number skips λ c o m k l.
    let absent = none_is (name_text e.payload e.d2 name) (h e.payload e.d2 ∙ q) in
    i e.d2 c o.names m k l ∙ ap (λ (t : Option Text). ok (t, l)) absent

-- A declaration of two types: what is made of its message and the types that follow its record.
module _ {A : Type 0} (read : Scope → Message → Read (Option A)) (rows : A → List Row) (cost : ℕ) (e : Lent) (msg : List ℕ) (base : ℕ) (s : State)
    (p : TypePair) (make : Message → Option Ty × Option Ty → A) (record_of : Message → Row)
    (reads : (c : Scope) → Scoped e c → (m : Message) → cut (◌from◌ base msg) ≡ ok m → (l : ℕ)
    → read c m l ≡ Results.◌>>=◌ (pair_in p c m l) (λ x. pure (some (make m x.0)) x.1))
    {s₁ : State} {S S₁ T T₁ : List ℕ} (within : Within cost s s₁) (left : s₁.types ≡ s.types)
    (written : (m : Message) → cut (◌from◌ base msg) ≡ ok m → PutRows (record_of m ∷ []) s.types s s₁ S S₁ T T₁)
    (puts : (m : Message) (ts : Option Ty × Option Ty) (b : ℕ) (s₂ : State) (S₂ T₂ : List ℕ)
    → PutRows (record_of m ∷ []) s.types s s₁ S S₁ T T₁ → PutRows (pair_rows p ts) b s₁ s₂ S₁ S₂ T₁ T₂
    → PutRows (rows (make m ts)) b s s₂ S S₂ T T₂) where
  spent : (w : Walked) → WalkedSpends s₁ w → PickedWithin cost s (picked_of w)
  spent (Ok s₂) u = within_both cost (omega arith) within (spends-within u)
  spent (Err stop) u = tt

  told : (c : Scope) (m : Message) → PutRows (record_of m ∷ []) s.types s s₁ S S₁ T T₁ → (r : Res (Option A × ℕ))
      → r ≡ Results.◌>>=◌ (pair_in p c m s₁.types) (λ x. pure (some (make m x.0)) x.1)
      → (w : Walked) (S₂ T₂ : List ℕ) → WalkedTold (pair_in p c m s₁.types) (pair_rows p) s₁ w S₁ S₂ T₁ T₂
      → PickedTold r rows s (picked_of w) S S₂ T T₂
  told c m f r g (Ok s₂) S₂ T₂ (ts, b, y, z) = (make m ts, b, g ∙ rw y, puts m ts b s₂ S₂ T₂ f z)
  told c m f r g (Err stop) S₂ T₂ y = g ∙ rw y

  pub pair-told : {w : Walked} {r : Picked} {S₂ T₂ : List ℕ} → PairTold p e msg base s₁ w S₁ S₂ T₁ T₂ → r ≡ picked_of w
      → MemberTold read rows cost e msg base s r S S₂ T T₂
  pair-told {w} {r} {S₂} {T₂} u g =
      let it : MemberTold read rows cost e msg base s (picked_of w) S S₂ T T₂ = record {
        spends = spent w u.spends;
        is = λ c o m k.
            let is = reads c o m k s.types
            ∙ ap (λ (l : ℕ). Results.◌>>=◌ (pair_in p c m l) (λ x. pure (some (make m x.0)) x.1)) (sym left) in
            told c m (written m k) (read c m s.types) is w S₂ T₂ (u.is c o m k);
      } in
      subst (λ (y : Picked). MemberTold read rows cost e msg base s y S S₂ T T₂) (sym g) it
