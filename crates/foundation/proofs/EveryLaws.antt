-- Laws of every element of a list, and of a value if there is one.
-- Assumes nothing.
use mathlib.Core.Path.{◌≡◌, refl, ap}
use mathlib.Core.Bool.{Bool, true, false, ◌&&◌}
use mathlib.Core.List.{List, [], ◌∷◌, ◌++◌}
use mathlib.Core.Option.{Option, none, some}
use Prim.Native.Nat.{ℕ, zero, suc}
use lib.Dec.{T}
use lib.ListN.{take, drop, get_elem?}
use Rattle.foundation.specs.Choices.{if_some, map_option, All, IfSome}

-- each of two tests that hold
pub each : (a b : Bool) → T (a && b) → T a × T b
each true b p = (tt, p)
each false b p = absurd p

-- a test of every element
abbrev pub every : {A : Type 0} → (A → Bool) → List A → Bool
every p [] = true
every p (x ∷ xs) = p x && every p xs

pub every_all : {A : Type 0} (p : A → Bool) (xs : List A) → T (every p xs) → All (λ a. T (p a)) xs
every_all p [] h = tt
every_all p (x ∷ xs) h = let e = each (p x) (every p xs) h in (e.0, every_all p xs e.1)

module _ {A : Type 0} (P : A → Type 0) where
  pub all_any : ((a : A) → P a) → (xs : List A) → All P xs
  all_any h [] = tt
  all_any h (x ∷ xs) = (h x, all_any h xs)

  pub all-at : (xs : List A) (i : ℕ) → All P xs → IfSome P (get_elem? xs i)
  all-at [] i h = tt
  all-at (x ∷ xs) zero h = h.0
  all-at (x ∷ xs) (suc i) h = all-at xs i h.1

  pub all_split : (xs ys : List A) → All P (xs ++ ys) → All P xs × All P ys
  all_split [] ys h = (tt, h)
  all_split (x ∷ xs) ys h = let e = all_split xs ys h.1 in ((h.0, e.0), e.1)

  pub all_take : (n : ℕ) (xs : List A) → All P xs → All P (take n xs)
  all_take zero xs h = tt
  all_take (suc n) [] h = tt
  all_take (suc n) (x ∷ xs) h = (h.0, all_take n xs h.1)

  pub all_drop : (n : ℕ) (xs : List A) → All P xs → All P (drop n xs)
  all_drop zero xs h = h
  all_drop (suc n) [] h = tt
  all_drop (suc n) (x ∷ xs) h = all_drop n xs h.1

-- what holds of a value, and so of what is made of it
module _ {A B : Type 0} (P : A → Type 0) (Q : B → Type 0) where
  pub some_map : (f : A → B) (o : Option A) → IfSome P o → ((a : A) → P a → Q (f a)) → IfSome Q (map_option f o)
  some_map f none p h = tt
  some_map f (some a) p h = h a p

  pub some_then : (o : Option A) (f : A → Option B) → IfSome P o → ((a : A) → P a → IfSome Q (f a)) → IfSome Q (if_some o none f)
  some_then none f p h = tt
  some_then (some a) f p h = h a p

-- functions that agree give the same
pub map_same : {A B : Type 0} (f g : A → B) → ((a : A) → f a ≡ g a) → (o : Option A) → map_option f o ≡ map_option g o
map_same f g h none = refl
map_same f g h (some a) = ap some (h a)

pub map_twice : {A B C : Type 0} (f : A → B) (g : B → C) (o : Option A) → map_option g (map_option f o) ≡ map_option (λ a. g (f a)) o
map_twice f g none = refl
map_twice f g (some a) = refl

pub some_weaken : {A : Type 0} (P Q : A → Type 0) (o : Option A) → IfSome P o → ((a : A) → P a → Q a) → IfSome Q o
some_weaken P Q none p h = tt
some_weaken P Q (some a) p h = h a p
