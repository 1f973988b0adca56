-- Every d1 is in one case: the first cause that applies to it, or none.
-- Assumes nothing.
use mathlib.Core.Path.{◌≡◌, refl, sym, subst}
use mathlib.Core.Bool.{Bool, true, false}
use mathlib.Core.List.{List}
use mathlib.Core.Option.{Option, none, some}
use Prim.Native.Nat.{ℕ, ◌%◌, ◌≤◌, ◌<◌}
use native.Mathlib.Omega.{arith}
use borrow.Author.Tests.{ltb-true, ltb-false, eqb-true, eqb-false}
use lib.Dec.{eqb, ltb}
use lib.ListN.{length, get_or}
use Rattle.encoding.specs.Encoding.{unit_limit, byte_string_marker, first_above255}
use Rattle.converter.specs.Conversions.{
  ConversionFault,
  too_many_units,
  nothing_there,
  wrong_form,
  unit_above255,
  first_unit_zero,
  old_fault,
  new_fault,
}
use Rattle.converter.proofs.FaultLaws.{
  old-long,
  old-empty,
  old-marked,
  old-above,
  old-fine,
  new-long,
  new-empty,
  new-unmarked,
  new-alone,
  new-above,
  new-ones,
  new-other,
}

-- an old d1 that can be converted
pub record OldReady (d1 : List ℕ) : Type 0 where
  pub within : length d1 ≤ unit_limit
  pub there : length d1 ≡ 0 → ⊥
  pub unmarked : get_or d1 0 0 ≡ byte_string_marker → ⊥
  pub bytes : first_above255 d1 ≡ none

-- and a marked one
pub record NewReady (d1 : List ℕ) : Type 0 where
  pub within : length d1 ≤ unit_limit
  pub there : length d1 ≡ 0 → ⊥
  pub marked : get_or d1 0 0 ≡ byte_string_marker
  pub more : length d1 ≡ 1 → ⊥
  pub bytes : first_above255 d1 ≡ none
  pub other : get_or d1 1 0 % 128 ≡ 127 → ⊥

pub data OldCase (d1 : List ℕ) : Option ConversionFault → Type 0 where
  old_long : unit_limit < length d1 → OldCase d1 (some too_many_units)
  old_empty : length d1 ≤ unit_limit → length d1 ≡ 0 → OldCase d1 (some nothing_there)
  old_marked : length d1 ≤ unit_limit → (length d1 ≡ 0 → ⊥) → get_or d1 0 0 ≡ byte_string_marker → OldCase d1 (some wrong_form)
  old_above : {unit : ℕ} → length d1 ≤ unit_limit → (length d1 ≡ 0 → ⊥) → (get_or d1 0 0 ≡ byte_string_marker → ⊥) → first_above255 d1 ≡ some unit
      → OldCase d1 (some (unit_above255 unit))
  old_ready : OldReady d1 → OldCase d1 none

pub data NewCase (d1 : List ℕ) : Option ConversionFault → Type 0 where
  new_long : unit_limit < length d1 → NewCase d1 (some too_many_units)
  new_empty : length d1 ≤ unit_limit → length d1 ≡ 0 → NewCase d1 (some nothing_there)
  new_alone : length d1 ≤ unit_limit → get_or d1 0 0 ≡ byte_string_marker → length d1 ≡ 1 → NewCase d1 (some nothing_there)
  new_unmarked : length d1 ≤ unit_limit → (length d1 ≡ 0 → ⊥) → (get_or d1 0 0 ≡ byte_string_marker → ⊥) → NewCase d1 (some wrong_form)
  new_above : {unit : ℕ} → length d1 ≤ unit_limit → (length d1 ≡ 0 → ⊥) → get_or d1 0 0 ≡ byte_string_marker → (length d1 ≡ 1 → ⊥)
      → first_above255 d1 ≡ some unit
      → NewCase d1 (some (unit_above255 unit))
  new_ones : length d1 ≤ unit_limit → (length d1 ≡ 0 → ⊥) → get_or d1 0 0 ≡ byte_string_marker → (length d1 ≡ 1 → ⊥) → first_above255 d1 ≡ none
      → get_or d1 1 0 % 128 ≡ 127
      → NewCase d1 (some first_unit_zero)
  new_ready : NewReady d1 → NewCase d1 none

-- a number below or not, equal or not, an option with or without a value
below_or : {P : Type 0} (a b : ℕ) → (a < b → P) → (b ≤ a → P) → P
below_or {P} a b f g = go (ltb a b) refl
  where
    go : (t : Bool) → ltb a b ≡ t → P
    go true e = f (ltb-true a b e)
    go false e = g (ltb-false a b e)

equal_or : {P : Type 0} (a b : ℕ) → (a ≡ b → P) → ((a ≡ b → ⊥) → P) → P
equal_or {P} a b f g = go (eqb a b) refl
  where
    go : (t : Bool) → eqb a b ≡ t → P
    go true e = f (eqb-true a b e)
    go false e = g (eqb-false a b e)

some_or : {P : Type 0} (o : Option ℕ) → ((a : ℕ) → o ≡ some a → P) → (o ≡ none → P) → P
some_or none f g = g refl
some_or (some a) f g = f a refl

old_is : (d1 : List ℕ) {o : Option ConversionFault} → old_fault d1 ≡ o → OldCase d1 o → OldCase d1 (old_fault d1)
old_is d1 e c = subst (OldCase d1) (sym e) c

pub old_case : (d1 : List ℕ) → OldCase d1 (old_fault d1)
old_case d1 =
    below_or unit_limit (length d1) (λ long. old_is d1 (old-long d1 long) (old_long long)) λ w.
    equal_or (length d1) 0 (λ e. old_is d1 (old-empty d1 w e) (old_empty w e)) λ t.
    equal_or (get_or d1 0 0) byte_string_marker (λ m. old_is d1 (old-marked d1 w t m) (old_marked w t m)) λ n.
    some_or (first_above255 d1) (λ u a. old_is d1 (old-above d1 w t n a) (old_above w t n a)) λ b.
    old_is d1 (old-fine d1 w t n b) (old_ready (record { within = w; there = t; unmarked = n; bytes = b }))

new_is : (d1 : List ℕ) {o : Option ConversionFault} → new_fault d1 ≡ o → NewCase d1 o → NewCase d1 (new_fault d1)
new_is d1 e c = subst (NewCase d1) (sym e) c

pub new_case : (d1 : List ℕ) → NewCase d1 (new_fault d1)
new_case d1 =
    below_or unit_limit (length d1) (λ long. new_is d1 (new-long d1 long) (new_long long)) λ w.
    equal_or (length d1) 0 (λ e. new_is d1 (new-empty d1 w e) (new_empty w e)) λ t.
    equal_or (get_or d1 0 0) byte_string_marker
    (λ m.
    equal_or (length d1) 1 (λ e. new_is d1 (new-alone d1 w t m e) (new_alone w m e)) λ n.
    some_or (first_above255 d1) (λ u a. new_is d1 (new-above d1 w t m n a) (new_above w t m n a)) λ b.
    equal_or (get_or d1 1 0 % 128) 127 (λ o. new_is d1 (new-ones d1 w t m n b o) (new_ones w t m n b o)) λ o.
    new_is d1 (new-other d1 w t m n b o) (new_ready (record { within = w; there = t; marked = m; more = n; bytes = b; other = o })))
    λ m. new_is d1 (new-unmarked d1 w t m) (new_unmarked w t m)

-- where there is no cause, all is known
pub old_ready_lem : (d1 : List ℕ) → old_fault d1 ≡ none → OldReady d1
old_ready_lem d1 e = go (old_fault d1) e (old_case d1)
  where
    go : (o : Option ConversionFault) → o ≡ none → OldCase d1 o → OldReady d1
    go none e (old_ready r) = r
    go (some f) e c = let z : ◌≡◌ {A = ℕ} 0 1 = cc in absurd (omega arith)

pub new_ready_lem : (d1 : List ℕ) → new_fault d1 ≡ none → NewReady d1
new_ready_lem d1 e = go (new_fault d1) e (new_case d1)
  where
    go : (o : Option ConversionFault) → o ≡ none → NewCase d1 o → NewReady d1
    go none e (new_ready r) = r
    go (some f) e c = let z : ◌≡◌ {A = ℕ} 0 1 = cc in absurd (omega arith)
