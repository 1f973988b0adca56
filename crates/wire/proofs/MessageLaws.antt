-- A fact about every field of a message is a fact about what the message says of a field.
-- Assumes nothing.
use mathlib.Core.Path.{◌≡◌, refl, ap, subst}
use mathlib.Core.Bool.{Bool, true, false}
use mathlib.Core.List.{List, [], ◌∷◌, ◌++◌}
use mathlib.Core.Option.{Option, none, some}
use Prim.Native.Nat.{ℕ, suc, ◌≤◌}
use native.Mathlib.Omega.{arith}
use lib.Dec.{eqb}
use lib.ListN.{length}
use Rattle.std.specs.Prelude.{if◌then◌else◌}
use Rattle.foundation.specs.Choices.{All, IfSome}
use Rattle.foundation.specs.Results.{Part}
use Rattle.foundation.proofs.ChoiceLaws.{if_ind, some_ind, some_bind, all_append, all_weaken}
use Rattle.foundation.proofs.ResultLaws.{Gives, gives_bind, gives_weaken}
use Rattle.wire.specs.Wire.{Value, Message, cut}
use Rattle.wire.specs.Messages.{
  values,
  first_of,
  value,
  as_varint,
  as_body,
  varint_of,
  bytes_of,
  cut_option,
  message,
  bodies_of,
  cut_all,
  messages,
  varints_in,
  joined,
  varints,
}

-- of every field's value
abbrev pub Values : (Value → Type 0) → Message → Type 0
Values P = All (λ f. P f.value)

pub values_weaken : (P Q : Value → Type 0) → ((v : Value) → P v → Q v) → (m : Message) → Values P m → Values Q m
values_weaken P Q h = all_weaken (λ f. P f.value) (λ f. Q f.value) λ f. h f.value

module _ (P : Value → Type 0) (k : ℕ) where
  pub values-all : (m : Message) → Values P m → All P (values k m)
  unfolding values
  values-all [] h = tt
  values-all (f ∷ m) h = if_ind (All P) (eqb f.number k) (λ t. (h.0, values-all m h.1)) λ t. values-all m h.1

  first-all : (vs : List Value) → All P vs → IfSome P (first_of vs)
  first-all [] h = tt
  first-all (v ∷ vs) h = h.0

  pub value-all : (m : Message) → Values P m → IfSome P (value k m)
  value-all m h = first-all (values k m) (values-all m h)

pub values-append : (k : ℕ) (a b : Message) → values k (a ++ b) ≡ values k a ++ values k b
unfolding values
values-append k [] b = refl
values-append k (f ∷ a) b = go (eqb f.number k) (values k (a ++ b)) (values k a) (values k b) (values-append k a b)
  where
    go : (t : Bool) (xs ys zs : List Value) → xs ≡ ys ++ zs → (if t then f.value ∷ xs else xs) ≡ (if t then f.value ∷ ys else ys) ++ zs
    go true xs ys zs e = ap (λ (vs : List Value). f.value ∷ vs) e
    go false xs ys zs e = e

pub values_few : (k : ℕ) (m : Message) → length (values k m) ≤ length m
unfolding values
values_few k [] = omega arith
values_few k (f ∷ m) =
    let h = values_few k m in
    if_ind (λ (vs : List Value). length vs ≤ suc (length m)) (eqb f.number k) (λ t. omega arith) λ t. omega arith

pub varint_of_all : (P : ℕ → Type 0) (k : ℕ) (m : Message) → Values (λ v. IfSome P (as_varint v)) m → IfSome P (varint_of k m)
unfolding varint_of
varint_of_all P k m h = some_bind P (value k m) as_varint (value-all (λ v. IfSome P (as_varint v)) k m h)

pub bytes_of_all : (P : Part → Type 0) (k : ℕ) (m : Message) → Values (λ v. IfSome P (as_body v)) m → IfSome P (bytes_of k m)
unfolding bytes_of
bytes_of_all P k m h = some_bind P (value k m) as_body (value-all (λ v. IfSome P (as_body v)) k m h)

bodies_few : (vs : List Value) → length (bodies_of vs) ≤ length vs
unfolding bodies_of
bodies_few [] = omega arith
bodies_few (v ∷ vs) =
    let h = bodies_few vs in
    some_ind (λ (ps : List Part). length ps ≤ suc (length vs)) (as_body v) (λ e. omega arith) λ p e. omega arith

-- if cutting a part of which P is known gives what Q says, so do the embedded messages
module _ (P : Part → Type 0) (Q : Message → Type 0) (cuts : (p : Part) → P p → Gives Q (cut p)) where
  cut-option : (o : Option Part) → IfSome P o → Gives (IfSome Q) (cut_option o)
  cut-option none h = tt
  cut-option (some p) h = gives_bind Q (IfSome Q) (cut p) _ (cuts p h) λ m q. q

  pub message-all : (k : ℕ) (m : Message) → Values (λ v. IfSome P (as_body v)) m → Gives (IfSome Q) (message k m)
  unfolding message
  message-all k m h = cut-option (bytes_of k m) (bytes_of_all P k m h)

  bodies-all : (vs : List Value) → All (λ v. IfSome P (as_body v)) vs → All P (bodies_of vs)
  unfolding bodies_of
  bodies-all [] h = tt
  bodies-all (v ∷ vs) h =
      let more = bodies-all vs h.1 in
      some_ind (All P) (as_body v) (λ e. more) λ p e. (subst (IfSome P) e h.0, more)

  cut_all_lem : (ps : List Part) → All P ps → Gives (λ ms. All Q ms × (length ms ≡ length ps)) (cut_all ps)
  unfolding cut_all
  cut_all_lem [] h = (tt, refl)
  cut_all_lem (p ∷ ps) h =
      let R : List Message → Type 0 = λ ms. All Q ms × (length ms ≡ suc (length ps)) in
      gives_bind Q R (cut p) _ (cuts p h.0) λ m q.
      gives_bind _ R (cut_all ps) _ (cut_all_lem ps h.1) λ ms r. ((q, r.0), ap suc r.1)

  pub messages-all : (k : ℕ) (m : Message) → Values (λ v. IfSome P (as_body v)) m
      → Gives (λ ms. All Q ms × (length ms ≤ length m)) (messages k m)
  unfolding messages
  messages-all k m h =
      let vs = values k m in
      let all = cut_all_lem (bodies_of vs) (bodies-all vs (values-all (λ v. IfSome P (as_body v)) k m h)) in
      let R : List Message → Type 0 = λ ms. All Q ms × (length ms ≤ length m) in
      gives_weaken _ R (cut_all (bodies_of vs)) all λ ms r. (r.0, omega (arith, bodies_few vs, values_few k m))

-- of the numbers, single and packed
module _ (P : ℕ → Type 0) where
  joined-all : (vs : List Value) → All (λ v. Gives (All P) (varints_in v)) vs → Gives (All P) (joined vs)
  unfolding joined
  joined-all [] h = tt
  joined-all (v ∷ vs) h =
      gives_bind (All P) (All P) (varints_in v) _ h.0 λ ns p.
      gives_bind (All P) (All P) (joined vs) _ (joined-all vs h.1) λ more q. all_append P ns more p q

  pub varints-all : (k : ℕ) (m : Message) → Values (λ v. Gives (All P) (varints_in v)) m → Gives (All P) (varints k m)
  unfolding varints
  varints-all k m h = joined-all (values k m) (values-all (λ v. Gives (All P) (varints_in v)) k m h)
