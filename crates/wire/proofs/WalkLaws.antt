-- A message field by field: what cutting it from a place on is, by the code's answer to the field there.
-- Assumes nothing.
use mathlib.Core.Path.{◌≡◌, refl, ap, sym, ◌∙◌, subst}
use mathlib.Core.List.{List, [], ◌∷◌}
use Prim.Native.Nat.{ℕ, ◌+◌, ◌≤◌, ◌<◌}
use native.Mathlib.Nat.{add-zero}
use native.Mathlib.Omega.{arith}
use borrow.Author.Tests.{eq-eqb, ne_eqb}
use lib.ListN.{length, drop, length-drop}
use Rattle.foundation.specs.Results.{Res, ok, refused, ◌>>=◌, Part, ◌from◌, got}
use Rattle.foundation.proofs.ResultLaws.{gives-ok}
use Rattle.wire.specs.Wire.{Value, field, read_field, Message, cut}
use Rattle.wire.specs.Messages.{values}
use Rattle.wire.specs.told.WireTold.{wire_refused, rest_of, Inside, told_field, FieldTold}
use Rattle.wire.specs.declared.WireError.{WireError}
use Rattle.wire.specs.declared.Field as code
use Rattle.foundation.specs.declared.Read.{Read}
use Rattle.std.specs.Prelude.{Result, Ok, Err}
use Rattle.wire.proofs.Readers.{After, ReadIn, field-after}
use Rattle.wire.proofs.Progress.{none_empty, cut_none, cut_next}
use Rattle.wire.proofs.FieldLaws.{after-inside}

-- what a reading gives that goes on by a function
pub bind_ok : {A B : Type 0} (r : Res A) (g : A → B) {b : B} → (r >>= λ a. ok (g a)) ≡ ok b → (a : A) × (r ≡ ok a) × (b ≡ g a)
bind_ok (ok a) g e = (a, refl, cc)
bind_ok (refused c p) g e = let z : ◌≡◌ {A = ℕ} 0 1 = cc in absurd (omega arith)

pub ok_same : {A : Type 0} {a b : A} → ◌≡◌ {A = Res A} (ok a) (ok b) → a ≡ b
ok_same e = cc

pub byte_left : (s : List ℕ) (at : ℕ) → at < length s → 1 ≤ length (drop at s)
byte_left s at h = rw length-drop (omega arith)

module _ (base : ℕ) (s : List ℕ) where
  pub whole : rest_of base s 0 ≡ ◌from◌ base s
  whole = rw add-zero

  module _ (at : ℕ) where
    pub cut-end : length s ≤ at → cut (rest_of base s at) ≡ ok []
    cut-end h = cut_none (rest_of base s at) (none_empty (drop at s) (rw length-drop (omega arith)))

    -- the code's answer there
    pub field_is : {r : Result (Read code.Field) WireError} → FieldTold base s (read_field (rest_of base s at)) r → {x : Read code.Field} → r ≡ Ok x
        → (read_field (rest_of base s at) ≡ got (told_field base s x.value) (rest_of base s x.next)) × Inside s x.value.value
    field_is e g = subst (FieldTold base s (read_field (rest_of base s at))) g e

    -- a field that the code has read there
    module _ (x : Read code.Field) (e : FieldTold base s (read_field (rest_of base s at)) (Ok x)) where
      pub field-inside : at ≤ length s → (at + 1 ≤ x.next) × (x.next ≤ length s)
      field-inside h =
          let p = rest_of base s at in
          let a = gives-ok (λ q. ReadIn p q.0.value × After 1 p q.1) e.0 (field-after p) in
          after-inside base s at x.next h a.1

      module _ (h : at < length s) where
        pub cut_field : cut (rest_of base s at) ≡ (cut (rest_of base s x.next) >>= λ m. ok (told_field base s x.value ∷ m))
        cut_field = cut_next (rest_of base s at) (byte_left s at h) ∙ rw e.0

        -- of a message that is cut
        pub cut-goes-on : {m : Message} → cut (rest_of base s at) ≡ ok m
            → (rest : Message) × (cut (rest_of base s x.next) ≡ ok rest) × (m ≡ told_field base s x.value ∷ rest)
        cut-goes-on w = bind_ok (cut (rest_of base s x.next)) (λ m. told_field base s x.value ∷ m) (sym cut_field ∙ w)

    -- a field that the code has refused
    module _ (error : WireError) (e : FieldTold base s (read_field (rest_of base s at)) (Err error)) (h : at < length s) where
      pub cut-refused : cut (rest_of base s at) ≡ wire_refused error
      cut-refused = cut_next (rest_of base s at) (byte_left s at h) ∙ rw e

      pub cut-never : {A : Type 0} {m : Message} → cut (rest_of base s at) ≡ ok m → A
      cut-never w = let q = cut-refused in let z : ◌≡◌ {A = ℕ} 0 1 = cc in absurd (omega arith)

-- Cutting p goes on with q: what is known of the two messages is R.
abbrev pub Leads : (Message → Message → Type 0) → Part → Part → Type 0
Leads R p q = (m : Message) → cut p ≡ ok m → (rest : Message) × (cut q ≡ ok rest) × R m rest

pub leads-start : (R : Message → Message → Type 0) (base : ℕ) (s : List ℕ) → ((m : Message) → R m m)
    → Leads R (◌from◌ base s) (rest_of base s 0)
leads-start R base s h m w = (m, ap cut (whole base s) ∙ w, h m)

pub leads-end : (R : Message → Message → Type 0) (p : Part) (base : ℕ) (s : List ℕ) (at : ℕ) → Leads R p (rest_of base s at) → length s ≤ at
    → (m : Message) → cut p ≡ ok m → R m []
leads-end R p base s at l h m w =
    let q = l m w in
    let e : q.0 ≡ [] = ok_same (sym q.1 ∙ cut-end base s at h) in
    subst (R m) e q.2

module _ (p : Part) (base : ℕ) (s : List ℕ) (at : ℕ) where
  pub leads-next : (x : Read code.Field) → FieldTold base s (read_field (rest_of base s at)) (Ok x) → at < length s
      → (R S : Message → Message → Type 0) → Leads R p (rest_of base s at)
      → ((m rest : Message) → R m (told_field base s x.value ∷ rest) → S m rest) → Leads S p (rest_of base s x.next)
  leads-next x e h R S l f m w =
      let q = l m w in
      let t = cut-goes-on base s at x e h q.1 in
      (t.0, t.1, f m t.0 (subst (R m) t.2 q.2))

  pub leads-never : {A : Type 0} (error : WireError) → FieldTold base s (read_field (rest_of base s at)) (Err error) → at < length s
      → (R : Message → Message → Type 0) → Leads R p (rest_of base s at) → (m : Message) → cut p ≡ ok m → A
  leads-never error e h R l m w = cut-never base s at error e h (l m w).1

-- the occurrences of a field
module _ (k : ℕ) {n : ℕ} (v : Value) (m : Message) where
  pub values-found : n ≡ k → values k (field n v ∷ m) ≡ v ∷ values k m
  unfolding values
  values-found h = rw (eq-eqb n k h)

  pub values-passed : (n ≡ k → ⊥) → values k (field n v ∷ m) ≡ values k m
  unfolding values
  values-passed h = rw (ne_eqb n k h)
