-- A walk over the bodies of a field by `Bodies`: it stays on its message, and what it gives.
-- Assumes nothing.
use mathlib.Core.Path.{◌≡◌, ap, sym, subst, ◌∙◌}
use mathlib.Core.List.{List}
use Prim.Native.Nat.{ℕ}
use Rattle.std.specs.Prelude.{Option, Some}
use Rattle.foundation.specs.declared.Located.{Located}
use Rattle.foundation.specs.declared.Span.{Span}
use Rattle.messages.specs.told.Asked.{NextBodyTold, after_body}
use Rattle.messages.specs.declared.Bodies.{Bodies}

-- a walk over the bodies of field k in the message s at offset base
pub record Goes (i : Bodies) (base : ℕ) (s : List ℕ) (k : ℕ) : Type 0 where
  pub offset : i.s.base ≡ base
  pub slice : i.s.bytes.now ≡ s
  pub number : i.number ≡ k

module _ {i j : Bodies} where
  pub goes-start : {s : Located} {k at : ℕ} → i ≡ j → (j.s ≡ s) × (j.number ≡ k) × (j.at ≡ at)
      → (P : ℕ → Type 0) → P at → Goes i s.base s.bytes.now k × P i.at
  goes-start e (a, b, c) P p =
      let same = ap (λ (x : Bodies). x.s) e ∙ a in (
        record { offset = ap (λ (r : Located). r.base) same; slice = ap (λ (r : Located). r.bytes.now) same; number = ap (λ (x : Bodies). x.number) e ∙ b },
        subst P (sym (ap (λ (x : Bodies). x.at) e ∙ c)) p,
      )

-- the next step of a walk is one on its message, and the walk goes on there
module _ {i t : Bodies} {base : ℕ} {s : List ℕ} {k : ℕ} (w : Goes i base s k) {r : Option Span}
    (n : NextBodyTold i.s.base i.s.bytes.now i.number i.at r × (t.at ≡ after_body i.at r) × (t.s ≡ i.s) × (t.number ≡ i.number)) where
  pub goes-next : NextBodyTold base s k i.at r × Goes t base s k
  goes-next = (
    subst (λ (o : ℕ). NextBodyTold o s k i.at r) w.offset
        (subst (λ (l : List ℕ). NextBodyTold i.s.base l k i.at r) w.slice (subst (λ (m : ℕ). NextBodyTold i.s.base i.s.bytes.now m i.at r) w.number n.0)),
    record {
      offset = ap (λ (r : Located). r.base) n.2 ∙ w.offset;
      slice = ap (λ (r : Located). r.bytes.now) n.2 ∙ w.slice;
      number = n.3 ∙ w.number;
    },
  )

  -- where it then stands
  pub goes-to : {p : Span} → r ≡ Some p → t.at ≡ p.end
  goes-to g = n.1 ∙ ap (after_body i.at) g
