-- Laws of readings that are alike: what is the same is alike, what follows from it, and what is made of two such.
-- Assumes nothing.
use mathlib.Core.Path.{◌≡◌, refl, ap, subst, ◌∙◌}
use mathlib.Core.List.{List, [], ◌∷◌}
use mathlib.Core.Option.{Option, none, some}
use Prim.Native.Nat.{ℕ, zero, suc, ◌+◌, ◌-◌, ◌≤◌}
use native.Mathlib.Omega.{arith}
use lib.ListN.{length}
use Rattle.foundation.specs.Results.{Res, ok, refused, ◌>>=◌, Part, ◌from◌}
use Rattle.fields.specs.Fields.{Type-argument, Type-Argument-type}
use Rattle.wire.specs.Wire.{Message, cut}
use Rattle.wire.specs.Messages.{message, messages}
use Rattle.characters.specs.told.Places.{part_from}
use Rattle.characters.proofs.PartLaws.{part-part, part-long}
use Rattle.schema.specs.told.Alike.{Alike, AlikeOption, Dropped, Thinned, ArgumentsBy, TypesBy, SameType, SameTypes, no_entries, next_entry, SameAtLast, JoinedAs, TwinAt, DeepestOf}

-- What is the same in both is alike.
pub alike-itself : {A : Type 0} (P : A → A → Type 0) → ((a : A) → P a a) → (r : Res A) → Alike P r r
alike-itself P h (ok a) = h a
alike-itself P h (refused c p) = refl

pub option-itself : {A : Type 0} (P : A → A → Type 0) → ((a : A) → P a a) → (o : Option A) → AlikeOption P o o
option-itself P h none = refl
option-itself P h (some a) = h a

pub thinned-itself : {A : Type 0} (P : A → A → Type 0) (D : A → Type 0) → ((a : A) → P a a) → (xs : List A) → Thinned P D xs xs
thinned-itself P D h [] = Thinned.done
thinned-itself P D h (x ∷ xs) = Thinned.keeps (h x) (thinned-itself P D h xs)

pub argument-itself : (P : Message → Message → Type 0) → ((m : Message) → P m m) → (a : Message) → ArgumentsBy P a a
argument-itself P h a = record {
  projection = refl;
  indexed = refl;
  placed = refl;
  inline = alike-itself (AlikeOption P) (option-itself P h) (message Type-Argument-type a);
}

pub by-itself : (P : Message → Message → Type 0) (n : ℕ) → ((m : Message) → P m m) → (m : Message) → TypesBy P n m m
by-itself P n h m = record {
  name = refl;
  nullable = refl;
  arguments = alike-itself (Thinned (ArgumentsBy P) (Dropped n)) (thinned-itself (ArgumentsBy P) (Dropped n) (argument-itself P h)) (messages Type-argument m);
}

pub type-itself : (n k : ℕ) (m : Message) → SameType n k m m
unfolding SameType
type-itself n zero m = refl
type-itself n (suc k) m = by-itself (SameType n k) n (type-itself n k) m

pub types-itself : (n k : ℕ) (ms : List Message) → SameTypes n k ms ms
types-itself n k [] = no_entries
types-itself n k (m ∷ ms) = next_entry (type-itself n k m) (types-itself n k ms)

pub alike_weaken : {A : Type 0} (R S : A → A → Type 0) (r r' : Res A) → ((a b : A) → R a b → S a b) → Alike R r r' → Alike S r r'
alike_weaken R S (ok a) (ok b) h x = h a b x
alike_weaken R S (ok a) (refused c p) h x = x
alike_weaken R S (refused c p) r' h x = x

-- of an element and the list after it, and of one that may not be there
module _ {A : Type 0} (R : A → A → Type 0) (S : List A → List A → Type 0) where
  pub alike-cons : (r r' : Res A) (q q' : Res (List A)) → ((a b : A) (xs ys : List A) → R a b → S xs ys → S (a ∷ xs) (b ∷ ys)) → Alike R r r' → Alike S q q'
      → Alike S (r >>= λ a. q >>= λ xs. ok (a ∷ xs)) (r' >>= λ a. q' >>= λ xs. ok (a ∷ xs))
  alike-cons (ok a) (ok b) (ok xs) (ok ys) h x y = h a b xs ys x y
  alike-cons (ok a) (ok b) (ok xs) (refused c p) h x y = absurd y
  alike-cons (ok a) (ok b) (refused c p) q' h x y = ap (λ (q : Res (List A)). q >>= λ ys. ok (b ∷ ys)) y
  alike-cons (ok a) (refused c p) q q' h x y = absurd x
  alike-cons (refused c p) r' q q' h x y = ap (λ (r : Res A). r >>= λ a. q' >>= λ xs. ok (a ∷ xs)) x

pub alike-some : {A : Type 0} (R : A → A → Type 0) (r r' : Res A) → Alike R r r' → Alike (AlikeOption R) (r >>= λ a. ok (some a)) (r' >>= λ a. ok (some a))
alike-some R (ok a) (ok b) h = h
alike-some R (ok a) (refused c p) h = h
alike-some {A} R (refused c p) r' h = ap (λ (r : Res A). r >>= λ a. ok (some a)) h

-- What is alike something that is given.
pub alike-given : {A : Type 0} (P : A → A → Type 0) {r r' : Res A} {a : A} → Alike P r r' → r ≡ ok a → (b : A) × (r' ≡ ok b) × P a b
alike-given {A} P {r} {r'} {a} h e = go r' (subst (λ x. Alike P x r') e h)
  where
    go : (x : Res A) → Alike P (ok a) x → (b : A) × (x ≡ ok b) × P a b
    go (ok b) k = (b, refl, k)
    go (refused c p) k = absurd k

-- A copy of the decoded bytes that is the same is read alike.
pub at-last-itself : (m : Message) → SameAtLast m m
at-last-itself m = record { levels = 0; same = type-itself 0 0 m }

pub joined-itself : (P : Message → Message → Type 0) → ((m : Message) → P m m) → (s : List ℕ) → JoinedAs P s s
joined-itself P h s = record { many = refl; alike = λ base. alike-itself P h (cut (◌from◌ base s)) }

pub deepest_itself : (payload entries : List ℕ) (count : ℕ) → DeepestOf payload payload entries count
deepest_itself payload entries count = record { many = refl; each = λ i below ordered inside. joined-itself SameAtLast at-last-itself _ }

-- What a part of other bytes has for a type inline these bytes have, at the type's own place.
pub twin-placed : (deepest : List ℕ) (first last : ℕ) (p : Part) → first ≤ p.at → p.at + length p.bytes ≤ last → last ≤ length deepest
    → TwinAt first (part_from first last deepest) (some p) → Alike SameAtLast (cut p) (cut (◌from◌ p.at (part_from p.at (p.at + length p.bytes) deepest)))
twin-placed deepest first last p h j k twin =
    let a = p.at - first in
    let b = a + length p.bytes in
    let long = part-long deepest first last (omega arith) k in
    let begins : first + a ≡ p.at = omega arith in
    let ends : first + b ≡ p.at + length p.bytes = omega arith in
    let same : part_from a b (part_from first last deepest) ≡ part_from p.at (p.at + length p.bytes) deepest =
    part-part deepest first last a b (omega arith) (omega (arith, long))
    ∙ ap (λ (n : ℕ). part_from n (first + b) deepest) begins
    ∙ ap (λ (n : ℕ). part_from p.at n deepest) ends in
    subst (λ (l : List ℕ). Alike SameAtLast (cut p) (cut (◌from◌ p.at l))) same twin
