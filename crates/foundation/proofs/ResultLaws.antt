-- A fact about what a reading gives: it says nothing of a refusal.
-- Assumes nothing.
use mathlib.Core.Path.{◌≡◌, refl, subst}
use Rattle.foundation.specs.Results.{Res, ok, refused, ◌>>=◌, Got, map_got}

abbrev pub Gives : {A : Type 0} → (A → Type 0) → Res A → Type 0
Gives P (ok a) = P a
Gives P (refused c p) = Unit {0}

pub gives_bind : {A B : Type 0} (P : A → Type 0) (Q : B → Type 0) (r : Res A) (f : A → Res B) → Gives P r → ((a : A) → P a → Gives Q (f a)) → Gives Q (r >>= f)
gives_bind P Q (ok a) f p h = h a p
gives_bind P Q (refused c place) f p h = tt

pub gives_weaken : {A : Type 0} (P Q : A → Type 0) (r : Res A) → Gives P r → ((a : A) → P a → Q a) → Gives Q r
gives_weaken P Q (ok a) p h = h a p
gives_weaken P Q (refused c place) p h = tt

pub gives_both : {A : Type 0} (P Q : A → Type 0) (r : Res A) → Gives P r → Gives Q r → Gives (λ a. P a × Q a) r
gives_both P Q (ok a) p q = (p, q)
gives_both P Q (refused c place) p q = tt

-- of a reading that is accepted the fact holds
pub gives-ok : {A : Type 0} (P : A → Type 0) {r : Res A} {a : A} → r ≡ ok a → Gives P r → P a
gives-ok P {r} {a} e p = subst (Gives P) e p

pub gives-map : {A B : Type 0} (P : Got B → Type 0) (f : A → B) (r : Res (Got A)) → Gives (λ g. P (f g.0, g.1)) r → Gives P (map_got f r)
gives-map P f (ok g) p = p
gives-map P f (refused c place) p = tt

-- what goes on alike from everything that the reading gives is the same reading
pub bind_same : {A B : Type 0} (r : Res A) (f g : A → Res B) → Gives (λ a. f a ≡ g a) r → (r >>= f) ≡ (r >>= g)
bind_same (ok a) f g e = e
bind_same (refused c place) f g e = refl
