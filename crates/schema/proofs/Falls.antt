-- A reading leaves no more types than it finds: the combinators, and types for whatever walk does so. Of members TypeCount says more.
-- Assumes nothing.
use mathlib.Core.List.{List, [], ◌∷◌}
use mathlib.Core.Option.{Option, none, some}
use Prim.Native.Nat.{ℕ, zero, suc, ◌+◌, ◌≤◌}
use native.Mathlib.Nat.{le_refl, le_trans}
use native.Mathlib.Omega.{arith}
use lib.Dec.{eqb, ltb}
use lib.ListN.{get_elem?}
use Rattle.foundation.specs.Choices.{if_some}
use Rattle.foundation.specs.Results.{Res, ok, refused, too_many_types}
use Rattle.foundation.proofs.ChoiceLaws.{if_ind}
use Rattle.foundation.proofs.ResultLaws.{Gives, gives_bind, gives_weaken}
use Rattle.wire.specs.Wire.{Message}
use Rattle.wire.specs.Messages.{index, message, messages}
use Rattle.names.specs.Names.{string, qualified_name}
use Rattle.declaration_rows.specs.Declarations.{star}
use Rattle.schema.specs.Reading.{Read, pure, ◌>>=◌, lift, enter, kept, Scope, name_in, class_name_in, allowance}
use Rattle.schema.specs.Types.{Walk, max_depth, resolve_at, type_in, projection_in, argument_in, parse_at, type_at, declared_type, no_table, type_table_in}

pub record Falls {A : Type 0} (m : Read A) : Type 0 where
  pub at : (n : ℕ) → Gives (λ r. r.1 ≤ n) (m n)

module _ {A : Type 0} where
  pub falls-pure : (a : A) → Falls (pure a)
  falls-pure a = record { at = le_refl }

  pub falls-lift : (r : Res A) → Falls (lift r)
  falls-lift (ok a) = record { at = le_refl }
  falls-lift (refused c p) = record { at = λ n. tt }

  pub falls-enter : {m : Read A} → Falls m → Falls (enter m)
  falls-enter {m} h = record { at = entered }
    where
      entered : (n : ℕ) → Gives (λ r. r.1 ≤ n) (enter m n)
      entered zero = tt
      entered (suc n) = gives_weaken _ _ (m n) (h.at n) λ r p. omega arith

pub falls_bind : {A B : Type 0} {m : Read A} {f : A → Read B} → Falls m → ((a : A) → Falls (f a)) → Falls (m >>= f)
falls_bind {m} {f} h g = record {
  at = λ n.
      gives_bind _ _ (m n) (λ r. f r.0 r.1) (h.at n) λ r p.
      gives_weaken _ _ (f r.0 r.1) ((g r.0).at r.1) λ s q. le_trans q p;
}

pub falls-if_some : {A B : Type 0} (o : Option A) {m : Read B} {f : A → Read B} → Falls m → ((a : A) → Falls (f a)) → Falls (if_some o m f)
falls-if_some none h g = h
falls-if_some (some a) h g = g a

pub falls-kept : {A : Type 0} {f : Message → Read (Option A)} → ((m : Message) → Falls (f m)) → (ms : List Message) → Falls (kept f ms)
unfolding kept
falls-kept h [] = falls-pure []
falls-kept h (m ∷ ms) = falls_bind (h m) λ a. falls_bind (falls-kept h ms) λ xs. falls-pure _

-- names
module _ (s : Scope) (n : ℕ) (m : Message) where
  pub falls-name_in : Falls (name_in s n m)
  unfolding name_in
  falls-name_in = falls-if_some (index n m) (falls-pure none) λ i. falls-lift (string s.names i)

  pub falls-class_name_in : Falls (class_name_in s n m)
  unfolding class_name_in
  falls-class_name_in = falls-if_some (index n m) (falls-pure none) λ i. falls-lift (qualified_name s.names i)

-- types, for a walk that leaves no more
module _ (walk : Walk) (h : (d : ℕ) (m : Message) → Falls (walk d m)) (s : Scope) where
  pub falls-resolve_at : (d i : ℕ) → Falls (resolve_at walk s d i)
  unfolding resolve_at
  falls-resolve_at d i =
      let found = falls-if_some (get_elem? s.table.types i) (falls-pure none) λ m. falls_bind (h (d + 1) m) λ t. falls-pure _ in
      if_ind Falls (ltb d max_depth) (λ t. found) λ t. falls-pure none

  pub falls-type_in : (d inline indexed : ℕ) (m : Message) → Falls (type_in walk s d inline indexed m)
  unfolding type_in
  falls-type_in d inline indexed m =
      falls_bind (falls-lift (message inline m)) λ t.
      falls-if_some t (falls-if_some (index indexed m) (falls-pure none) (falls-resolve_at d)) λ inner.
      falls_bind (h d inner) λ it. falls-pure _

  pub falls-argument_in : (d : ℕ) (m : Message) → Falls (argument_in walk s d m)
  unfolding argument_in
  falls-argument_in d m =
      if_ind Falls (eqb (projection_in m) star) (λ t. falls-enter (falls-pure _)) λ t. falls_bind (falls-type_in d _ _ m) λ t. falls-pure _

  pub falls-parse_at : (d : ℕ) (m : Message) → Falls (parse_at walk s d m)
  unfolding parse_at
  falls-parse_at d m =
      falls-enter (
      falls_bind (falls-lift (messages _ m)) λ arguments.
      falls_bind (falls-kept (falls-argument_in (d + 1)) arguments) λ ts. falls_bind (falls-class_name_in s _ m) λ name. falls-pure _)

pub falls-type_at : (k : ℕ) (s : Scope) (d : ℕ) (m : Message) → Falls (type_at k s d m)
unfolding type_at
falls-type_at zero s d m = falls-lift (refused too_many_types 0)
falls-type_at (suc k) s d m = falls-parse_at (type_at k s) (falls-type_at k s) s d m

pub falls-declared_type : (s : Scope) (inline indexed : ℕ) (m : Message) → Falls (declared_type s inline indexed m)
unfolding declared_type
falls-declared_type s = falls-type_in (type_at allowance s) (falls-type_at allowance s) s 0

pub falls-type_table_in : (n : ℕ) (m : Message) → Falls (type_table_in n m)
unfolding type_table_in
falls-type_table_in n m =
    falls_bind (falls-lift (message _ m)) λ t.
    falls-if_some t (falls-pure no_table) λ table. falls_bind (falls-lift (messages _ table)) λ types. falls-pure _
