-- Two readings that are the same, whatever number of types is left: the combinators.
-- Assumes nothing.
use mathlib.Core.Path.{◌≡◌, refl, ap, sym, ◌∙◌}
use mathlib.Core.Bool.{Bool, true, false}
use mathlib.Core.List.{List, [], ◌∷◌}
use mathlib.Core.Option.{Option, none, some}
use Prim.Native.Nat.{ℕ, zero, suc}
use native.Mathlib.Omega.{arith}
use Rattle.std.specs.Prelude.{if◌then◌else◌}
use Rattle.foundation.specs.Choices.{if_some}
use Rattle.foundation.specs.Results as Results
use Rattle.foundation.specs.Results.{Res, ok, refused}
use Rattle.foundation.specs.Texts.{Text}
use Rattle.wire.specs.Wire.{Message}
use Rattle.wire.specs.Messages.{messages}
use Rattle.declaration_rows.specs.Declarations.{Signature}
use Rattle.schema.specs.Reading.{Read, pure, ◌>>=◌, lift, enter, keep, kept, each}
use Rattle.schema.specs.Members.{named, list_in, of_signature}
use Rattle.schema.specs.told.Alike.{Alike, AlikeOption, Thinned, done, keeps, drops}

pub record SameRead {A : Type 0} (m m' : Read A) : Type 0 where
  pub at : (l : ℕ) → m l ≡ m' l

some-none : {A : Type 0} {a : A} → some a ≡ none → ⊥
some-none e = let z : ◌≡◌ {A = ℕ} 0 1 = cc in omega arith

module _ {A : Type 0} where
  pub same-path : {m m' : Read A} → m ≡ m' → SameRead m m'
  same-path e = record { at = λ l. ap (λ (m : Read A). m l) e }

  pub same-read : (m : Read A) → SameRead m m
  same-read m = record { at = λ l. refl }

  pub same-then : {m m' m'' : Read A} → SameRead m m' → SameRead m' m'' → SameRead m m''
  same-then h g = record { at = λ l. h.at l ∙ g.at l }

  pub same-enter : {m m' : Read A} → SameRead m m' → SameRead (enter m) (enter m')
  same-enter {m} {m'} h = record { at = entered }
    where
      entered : (l : ℕ) → enter m l ≡ enter m' l
      entered zero = refl
      entered (suc l) = h.at l

  pub same-if : (t : Bool) {m m' o o' : Read A} → SameRead m m' → SameRead o o' → SameRead (if t then m else o) (if t then m' else o')
  same-if true h g = h
  same-if false h g = g

pub same-bind : {A B : Type 0} {m m' : Read A} {f f' : A → Read B} → SameRead m m' → ((a : A) → SameRead (f a) (f' a)) → SameRead (m >>= f) (m' >>= f')
same-bind {A} {B} {m} {m'} {f} {f'} h g = record { at = λ l. after (m l) ∙ ap (λ (r : Res (A × ℕ)). Results.◌>>=◌ r λ q. f' q.0 q.1) (h.at l) }
  where
    after : (r : Res (A × ℕ)) → Results.◌>>=◌ r (λ q. f q.0 q.1) ≡ Results.◌>>=◌ r (λ q. f' q.0 q.1)
    after (ok q) = (g q.0).at q.1
    after (refused c p) = refl

pub same-if_some : {A B : Type 0} (o : Option A) {m m' : Read B} {f f' : A → Read B} → SameRead m m' → ((a : A) → SameRead (f a) (f' a))
    → SameRead (if_some o m f) (if_some o m' f')
same-if_some none h g = h
same-if_some (some a) h g = g a

pub same-named : {A : Type 0} (o : Option Text) {f f' : Text → Read A} → ((t : Text) → SameRead (f t) (f' t)) → SameRead (named o f) (named o f')
same-named none h = same-read (pure none)
same-named (some t) h = same-bind (h t) λ a. same-read (pure _)

-- after two readings that are alike, and of two that may not be there
pub alike-then : {A B : Type 0} (P : A → A → Type 0) (r r' : Res A) {f f' : A → Read B} → Alike P r r' → ((a b : A) → P a b → SameRead (f a) (f' b))
    → SameRead (lift r >>= f) (lift r' >>= f')
alike-then P (ok a) (ok b) h g = record { at = (g a b h).at }
alike-then P (ok a) (refused c p) h g = absurd h
alike-then {A} P (refused c p) r' {f} {f'} h g = record { at = λ l. sym (ap (λ (r : Res A). (lift r >>= f') l) h) }

pub alike-if_some : {A B : Type 0} (P : A → A → Type 0) (o o' : Option A) {m m' : Read B} {f f' : A → Read B} → AlikeOption P o o' → SameRead m m'
    → ((a b : A) → P a b → SameRead (f a) (f' b)) → SameRead (if_some o m f) (if_some o' m' f')
alike-if_some P none none h e g = e
alike-if_some P none (some b) h e g = absurd (some-none h)
alike-if_some P (some a) none h e g = absurd h
alike-if_some P (some a) (some b) h e g = g a b h

-- lists
pub same-kept : {A : Type 0} {f f' : Message → Read (Option A)} → ((m : Message) → SameRead (f m) (f' m)) → (ms : List Message) → SameRead (kept f ms) (kept f' ms)
unfolding kept
same-kept h [] = same-read (pure [])
same-kept h (m ∷ ms) = same-bind (h m) λ a. same-bind (same-kept h ms) λ xs. same-read (pure _)

pub same-each : {A : Type 0} {f f' : Message → Read A} → ((m : Message) → SameRead (f m) (f' m)) → (ms : List Message) → SameRead (each f ms) (each f' ms)
unfolding each
same-each h [] = same-read (pure [])
same-each h (m ∷ ms) = same-bind (h m) λ a. same-bind (same-each h ms) λ xs. same-read (pure _)

pub same-list_in : {A : Type 0} {f f' : Message → Read (Option A)} → ((m : Message) → SameRead (f m) (f' m)) → (n : ℕ) (m m' : Message)
    → messages n m ≡ messages n m' → SameRead (list_in f n m) (list_in f' n m')
unfolding list_in
same-list_in {f} {f'} h n m m' e =
    same-then (same-bind (same-read (lift (messages n m))) (same-kept h)) (same-path (ap (λ (r : Res (List Message)). lift r >>= kept f') e))

pub same-of_signature : {f f' : Message → Read (Option Signature)} → ((m : Message) → SameRead (f m) (f' m)) → (o : Option Message)
    → SameRead (of_signature f o) (of_signature f' o)
same-of_signature h none = same-read (pure none)
same-of_signature h (some m) = h m

-- a list that is thinned: D holds only of what reads as nothing
module _ {A : Type 0} (P : Message → Message → Type 0) (D : Message → Type 0) (f f' : Message → Read (Option A))
    (h : (a b : Message) → P a b → SameRead (f a) (f' b)) (g : (a : Message) → D a → SameRead (f a) (pure none)) where
  kept-nothing : (m : Read (List A)) → SameRead (m >>= λ xs. pure (keep none xs)) m
  kept-nothing m = record { at = λ l. go (m l) }
    where
      go : (r : Res (List A × ℕ)) → Results.◌>>=◌ r (λ q. pure (keep none q.0) q.1) ≡ r
      go (ok q) = refl
      go (refused c p) = refl

  pub thinned-kept : {xs ys : List Message} → Thinned P D xs ys → SameRead (kept f xs) (kept f' ys)
  unfolding kept
  thinned-kept done = same-read (pure [])
  thinned-kept (keeps {a} {b} p t) = same-bind (h a b p) λ o. same-bind (thinned-kept t) λ xs. same-read (pure _)
  thinned-kept (drops {a} {xs} d t) =
      same-then (same-bind {m = f a} {m' = pure none} (g a d) λ o. same-read (kept f xs >>= λ zs. pure (keep o zs))) (same-then (kept-nothing (kept f xs)) (thinned-kept t))
