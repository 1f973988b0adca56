-- A walk over the fields of a slice by `Fields`: it stays on its slice, and what it gives.
-- Assumes nothing.
use mathlib.Core.Path.{◌≡◌, ap, sym, subst, ◌∙◌}
use mathlib.Core.List.{List}
use Prim.Native.Nat.{ℕ}
use Rattle.foundation.specs.declared.Located.{Located}
use Rattle.std.specs.Prelude.{Option, Result}
use Rattle.wire.specs.told.WireTold.{FieldsNext}
use Rattle.wire.specs.declared.WireError.{WireError}
use Rattle.wire.specs.declared.Field as code
use Rattle.wire.specs.declared.Fields.{Fields}

-- a walk over the slice s at offset base, which passes over fields with none of the numbers ks
pub record Walks {n : ℕ} (i : Fields n) (base : ℕ) (s ks : List ℕ) : Type 0 where
  pub offset : i.s.base ≡ base
  pub slice : i.s.bytes.now ≡ s
  pub numbers : i.numbers ≡ ks

module _ {n : ℕ} {i j : Fields n} where
  pub walks-start : {s : Located} {ks : List ℕ} {at : ℕ} → i ≡ j → (j.s ≡ s) × (j.numbers ≡ ks) × (j.at ≡ at)
      → (P : ℕ → Type 0) → P at → Walks i s.base s.bytes.now ks × P i.at
  walks-start e (a, b, c) P p =
      let same = ap (λ (k : Fields n). k.s) e ∙ a in (
        record { offset = ap (λ (r : Located). r.base) same; slice = ap (λ (r : Located). r.bytes.now) same; numbers = ap (λ (k : Fields n). k.numbers) e ∙ b },
        subst P (sym (ap (λ (k : Fields n). k.at) e ∙ c)) p,
      )

-- the next step of a walk is one on its slice, and the walk goes on there
module _ {n : ℕ} {i t : Fields n} {base : ℕ} {s ks : List ℕ} (w : Walks i base s ks) where
  pub walks-next : {r : Option (Result code.Field WireError)}
      → FieldsNext i.s.base i.s.bytes.now i.numbers i.at r t.at × (t.s ≡ i.s) × (t.numbers ≡ i.numbers)
      → FieldsNext base s ks i.at r t.at × Walks t base s ks
  walks-next {r} (f, a, b) = (
    subst (λ (o : ℕ). FieldsNext o s ks i.at r t.at) w.offset
        (subst (λ (l : List ℕ). FieldsNext i.s.base l ks i.at r t.at) w.slice (subst (λ (l : List ℕ). FieldsNext i.s.base i.s.bytes.now l i.at r t.at) w.numbers f)),
    record { offset = ap (λ (r : Located). r.base) a ∙ w.offset; slice = ap (λ (r : Located). r.bytes.now) a ∙ w.slice; numbers = b ∙ w.numbers },
  )
