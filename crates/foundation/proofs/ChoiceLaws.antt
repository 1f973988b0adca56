-- Laws of choices, options and lists.
-- Assumes nothing.
use mathlib.Core.Path.{◌≡◌, refl}
use mathlib.Core.Bool.{Bool, true, false, ◌&&◌}
use mathlib.Core.List.{List, [], ◌∷◌, ◌++◌, map}
use mathlib.Core.Option.{Option, none, some}
use Prim.Native.Nat.{ℕ, zero, suc, ◌+◌}
use borrow.Author.Tests.{eqb-true, eq-eqb}
use native.Mathlib.Nat.{zero-add, suc-add}
use lib.Dec.{eqb}
use lib.ListN.{take, drop}
use lib.Seq.{take-nil}
use Rattle.std.specs.Prelude.{if◌then◌else◌}
use Rattle.foundation.specs.Choices.{if_some, All, IfSome, concat}
use Rattle.foundation.specs.Texts.{same}

-- a law of both branches is a law of the choice
pub if_ind : {A : Type 0} (P : A → Type 0) (t : Bool) {x y : A} → (t ≡ true → P x) → (t ≡ false → P y) → P (if t then x else y)
if_ind P true p q = p refl
if_ind P false p q = q refl

-- and of an option alike
pub some_ind : {A B : Type 0} (P : B → Type 0) (o : Option A) {b : B} {f : A → B}
    → (o ≡ none → P b) → ((a : A) → o ≡ some a → P (f a)) → P (if_some o b f)
some_ind P none p q = p refl
some_ind P (some a) p q = q a refl

-- a fact about what f gives of the value, if there is one
pub some_bind : {A B : Type 0} (P : B → Type 0) (o : Option A) (f : A → Option B)
    → IfSome (λ a. IfSome P (f a)) o → IfSome P (if_some o none f)
some_bind P none f h = tt
some_bind P (some a) f h = h

pub all_weaken : {A : Type 0} (P Q : A → Type 0) → ((a : A) → P a → Q a) → (xs : List A) → All P xs → All Q xs
all_weaken P Q h [] p = tt
all_weaken P Q h (x ∷ xs) p = (h x p.0, all_weaken P Q h xs p.1)

module _ {A : Type 0} (P : A → Type 0) where
  pub all_append : (xs ys : List A) → All P xs → All P ys → All P (xs ++ ys)
  all_append [] ys p q = q
  all_append (x ∷ xs) ys p q = (p.0, all_append xs ys p.1 q)

  pub all-concat : (ls : List (List A)) → All (All P) ls → All P (concat ls)
  all-concat [] p = tt
  all-concat (l ∷ ls) p = all_append l (concat ls) p.0 (all-concat ls p.1)

pub all_map : {A B : Type 0} (P : A → Type 0) (Q : B → Type 0) (f : A → B) → ((a : A) → P a → Q (f a)) → (xs : List A) → All P xs → All Q (map f xs)
all_map P Q f h [] p = tt
all_map P Q f h (x ∷ xs) p = (h x p.0, all_map P Q f h xs p.1)

pub drop-take : (j k : ℕ) (bs : List ℕ) → drop j (take (j + k) bs) ≡ take k (drop j bs)
drop-take zero k bs = rw zero-add
drop-take (suc j) k [] = rw (take-nil (suc j + k), take-nil k)
drop-take (suc j) k (b ∷ bs) = rw suc-add (drop-take j k bs)

pub and_left : (a b : Bool) → a && b ≡ true → a ≡ true
and_left true b h = refl
and_left false b h = h

pub and_right : (a b : Bool) → a && b ≡ true → b ≡ true
and_right true b h = h
and_right false b h = let z : false ≡ true = h in cc

-- the test of two texts tells that they are equal
pub same_refl : (s : List ℕ) → same s s ≡ true
same_refl [] = refl
same_refl (a ∷ s) = rw (eq-eqb a a refl) (same_refl s)

pub same_true : (s t : List ℕ) → same s t ≡ true → s ≡ t
same_true [] [] h = refl
same_true [] (b ∷ t) h = cc
same_true (a ∷ s) [] h = cc
same_true (a ∷ s) (b ∷ t) h =
    let p : a ≡ b = eqb-true a b (and_left (eqb a b) (same s t) h) in
    let q : s ≡ t = same_true s t (and_right (eqb a b) (same s t) h) in
    cc
