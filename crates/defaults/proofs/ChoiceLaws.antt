-- Laws of lists, of what is there or not, and of equal texts.
-- Assumes nothing.
use mathlib.Core.Path.{◌≡◌, refl, ap, sym, ◌∙◌}
use mathlib.Core.Logic.{◌≢◌, ◌↔◌}
use mathlib.Core.Bool.{false, true≢false}
use mathlib.Core.List.{List, [], ◌∷◌, ◌++◌, map, head-eq_of_cons-eq, tail-eq_of_cons-eq, append-eq-nil_iff, cons-ne-nil}
use mathlib.Core.Option.{Option, none, some, IsSome}
use Prim.Native.Nat.{ℕ}
use Rattle.foundation.specs.Choices.{map_option, both_of, every_of, All}
use Rattle.foundation.specs.Texts.{same}
use Rattle.foundation.proofs.ChoiceLaws.{same_refl}

pub all_map_iff : {A B : Type 0} (P : B → Type 0) (Q : A → Type 0) (f : A → B) → ((a : A) → P (f a) ↔ Q a)
    → (xs : List A) → All P (map f xs) ↔ All Q xs
all_map_iff P Q f h [] = (λ k. k, λ k. k)
all_map_iff P Q f h (x ∷ xs) =
    let r = all_map_iff P Q f h xs in
    (λ k. ((h x).0 k.0, r.0 k.1), λ k. ((h x).1 k.0, r.1 k.1))

-- a list that isn't empty tells its last and what stands before it
pub last_split : {A : Type 0} (xs ys : List A) (a b : A) → xs ++ (a ∷ []) ≡ ys ++ (b ∷ []) → (xs ≡ ys) × (a ≡ b)
last_split [] [] a b e = (refl, head-eq_of_cons-eq e)
last_split [] (y ∷ ys) a b e = absurd (cons-ne-nil b [] ((append-eq-nil_iff {p = ys}).0 (sym (tail-eq_of_cons-eq e))).1)
last_split (x ∷ xs) [] a b e = absurd (cons-ne-nil a [] ((append-eq-nil_iff {p = xs}).0 (tail-eq_of_cons-eq e)).1)
last_split (x ∷ xs) (y ∷ ys) a b e =
    let r = last_split xs ys a b (tail-eq_of_cons-eq e) in
    (λ i. head-eq_of_cons-eq e i ∷ r.0 i, r.1)

-- What f gives is there exactly when what it is given is,
pub some_map : {A B : Type 0} (f : A → B) (a : Option A) → IsSome (map_option f a) ↔ IsSome a
some_map f none = (λ h. h, λ h. h)
some_map f (some a) = (λ h. h, λ h. h)

pub some_both : {A B C : Type 0} (f : A → B → C) (a : Option A) (b : Option B) → IsSome (both_of f a b) ↔ (IsSome a × IsSome b)
some_both f none b = (λ h. absurd h, λ h. h.0)
some_both f (some a) none = (λ h. absurd h, λ h. h.1)
some_both f (some a) (some b) = (λ h. (h, h), λ h. h.0)

-- and all of a list exactly when each one is.
module _ {A B : Type 0} (P : A → Type 0) (f : A → Option B) (each : (a : A) → IsSome (f a) ↔ P a) where
  pub some-every : (xs : List A) → IsSome (every_of (map f xs)) ↔ All P xs
  some-every [] = (λ k. k, λ k. k)
  some-every (x ∷ xs) =
      let rest = some-every xs in
      let both = some_both (λ y ys. y ∷ ys) (f x) (every_of (map f xs)) in
      (λ k. ((each x).0 (both.0 k).0, rest.0 (both.0 k).1), λ k. both.1 ((each x).1 k.0, rest.1 k.1))

-- Texts that the test tells apart are not equal.
pub same_false : (s t : List ℕ) → same s t ≡ false → s ≢ t
same_false s t h e = true≢false (sym (same_refl s) ∙ ap (same s) e ∙ h)
