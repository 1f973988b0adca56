-- The fuel of `type_at` decides no answer: where it is at least the number of types left, more of it changes nothing.
-- Assumes nothing.
use mathlib.Core.Path.{◌≡◌, refl, ap, sym, ◌∙◌}
use mathlib.Core.Bool.{Bool, true, false}
use mathlib.Core.List.{List, [], ◌∷◌}
use mathlib.Core.Option.{Option, none, some}
use Prim.Native.Nat.{ℕ, zero, suc, ◌+◌, ◌≤◌}
use native.Mathlib.Nat.{le_refl, le_trans, le_step, le_of_suc-le-suc}
use native.Mathlib.Omega.{arith}
use lib.Dec.{eqb, ltb}
use lib.ListN.{get_elem?}
use Rattle.std.specs.Prelude.{if◌then◌else◌}
use Rattle.foundation.specs.Choices.{if_some}
use Rattle.foundation.specs.Results as Results
use Rattle.foundation.specs.Results.{refused, too_many_types}
use Rattle.foundation.proofs.ResultLaws.{gives_weaken, bind_same}
use Rattle.wire.specs.Wire.{Message}
use Rattle.wire.specs.Messages.{index, message, messages}
use Rattle.declaration_rows.specs.Declarations.{star}
use Rattle.schema.specs.Reading.{Read, pure, ◌>>=◌, enter, kept, Scope}
use Rattle.schema.specs.Types.{Walk, max_depth, resolve_at, type_in, projection_in, argument_in, parse_at, type_at}
use Rattle.schema.proofs.Falls.{Falls, falls-lift, falls-kept, falls-type_in, falls-argument_in, falls-type_at}

-- Two readings agree where at most n types are left.
pub record Same {A : Type 0} (n : ℕ) (m m' : Read A) : Type 0 where
  pub at : (l : ℕ) → l ≤ n → m l ≡ m' l

pub same_refl : {A : Type 0} {n : ℕ} (m : Read A) → Same n m m
same_refl m = record { at = λ l h. refl }

pub same_bind : {A B : Type 0} {n : ℕ} {m m' : Read A} {f f' : A → Read B} → Falls m → Same n m m' → ((a : A) → Same n (f a) (f' a))
    → Same n (m >>= f) (m' >>= f')
same_bind {m} {m'} {f} {f'} h e g = record {
  at = λ l b.
      bind_same (m l) _ _ (gives_weaken _ _ (m l) (h.at l) λ r p. (g r.0).at r.1 (le_trans p b))
      ∙ ap (λ r. Results.◌>>=◌ r λ r. f' r.0 r.1) (e.at l b);
}

pub same-enter : {A : Type 0} {n : ℕ} {m m' : Read A} → Same n m m' → Same (suc n) (enter m) (enter m')
same-enter {n} {m} {m'} e = record { at = entered }
  where
    entered : (l : ℕ) → l ≤ suc n → enter m l ≡ enter m' l
    entered zero h = refl
    entered (suc l) h = e.at l (le_of_suc-le-suc h)

pub same-if_some : {A B : Type 0} {n : ℕ} (o : Option A) {m m' : Read B} {f f' : A → Read B} → Same n m m' → ((a : A) → Same n (f a) (f' a))
    → Same n (if_some o m f) (if_some o m' f')
same-if_some none e g = e
same-if_some (some a) e g = g a

pub same_if : {A : Type 0} {n : ℕ} (t : Bool) {m m' o o' : Read A} → Same n m m' → Same n o o'
    → Same n (if t then m else o) (if t then m' else o')
same_if true e g = e
same_if false e g = g

pub same_kept : {A : Type 0} {n : ℕ} {f f' : Message → Read (Option A)} → ((m : Message) → Falls (f m))
    → ((m : Message) → Same n (f m) (f' m)) → (ms : List Message) → Same n (kept f ms) (kept f' ms)
unfolding kept
same_kept h e [] = same_refl (pure [])
same_kept h e (m ∷ ms) = same_bind (h m) (e m) λ a. same_bind (falls-kept h ms) (same_kept h e ms) λ xs. same_refl (pure _)

-- Walks that agree where at most n types are left read types that agree there, and one more where a type is entered.
module _ (n : ℕ) (w w' : Walk) (h : (d : ℕ) (m : Message) → Falls (w d m)) (e : (d : ℕ) (m : Message) → Same n (w d m) (w' d m))
    (s : Scope) where
  pub same-resolve_at : (d i : ℕ) → Same n (resolve_at w s d i) (resolve_at w' s d i)
  unfolding resolve_at
  same-resolve_at d i =
      let found =
      same-if_some (get_elem? s.table.types i) (same_refl (pure none)) λ m. same_bind (h (d + 1) m) (e (d + 1) m) λ t. same_refl _ in
      same_if (ltb d max_depth) found (same_refl (pure none))

  pub same-type_in : (d inline indexed : ℕ) (m : Message) → Same n (type_in w s d inline indexed m) (type_in w' s d inline indexed m)
  unfolding type_in
  same-type_in d inline indexed m =
      same_bind (falls-lift (message inline m)) (same_refl _) λ t.
      same-if_some t (same-if_some (index indexed m) (same_refl (pure none)) (same-resolve_at d)) λ i.
      same_bind (h d i) (e d i) λ it. same_refl _

  pub same-argument_in : (d : ℕ) (m : Message) → Same n (argument_in w s d m) (argument_in w' s d m)
  unfolding argument_in
  same-argument_in d m =
      same_if (eqb (projection_in m) star) (same_refl _) (same_bind (falls-type_in w h s d _ _ m) (same-type_in d _ _ m) λ t. same_refl _)

  pub same-parse_at : (d : ℕ) (m : Message) → Same (suc n) (parse_at w s d m) (parse_at w' s d m)
  unfolding parse_at
  same-parse_at d m =
      same-enter (
      same_bind (falls-lift (messages _ m)) (same_refl _) λ arguments.
      let falls = falls-argument_in w h s (d + 1) in
      same_bind (falls-kept falls arguments) (same_kept falls (same-argument_in (d + 1)) arguments) λ ts. same_refl _)

-- Fuel for the types that are left is enough.
no_more : (k : ℕ) (s : Scope) (d : ℕ) (m : Message) (l : ℕ) → l ≤ 0 → type_at k s d m l ≡ refused too_many_types 0
unfolding type_at parse_at
no_more zero s d m l h = refl
no_more (suc k) s d m zero h = refl
no_more (suc k) s d m (suc l) h = absurd (omega arith)

fuels_agree : (n j k : ℕ) → n ≤ j → n ≤ k → (s : Scope) (d : ℕ) (m : Message) → Same n (type_at j s d m) (type_at k s d m)
unfolding type_at
fuels_agree zero j k p q s d m = record { at = λ l h. no_more j s d m l h ∙ sym (no_more k s d m l h) }
fuels_agree (suc n) zero k p q s d m = absurd (omega arith)
fuels_agree (suc n) (suc j) zero p q s d m = absurd (omega arith)
fuels_agree (suc n) (suc j) (suc k) p q s d m =
    same-parse_at n (type_at j s) (type_at k s) (falls-type_at j s) (fuels_agree n j k (omega arith) (omega arith) s) s d m

pub type-enough : (j k : ℕ) (s : Scope) (d : ℕ) (m : Message) (l : ℕ) → l ≤ j → l ≤ k → type_at j s d m l ≡ type_at k s d m l
type-enough j k s d m l p q = (fuels_agree l j k p q s d m).at l (le_refl l)

-- A type is read as its message says, its inner types alike: the law by which `type_at` is used, with no fuel in it.
pub type_next : (k : ℕ) (s : Scope) (d : ℕ) (m : Message) (l : ℕ) → l ≤ k → type_at k s d m l ≡ parse_at (type_at k s) s d m l
unfolding type_at
type_next k s d m l h = type-enough k (suc k) s d m l h (le_step h)
