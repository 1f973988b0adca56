-- When each refusal is given, and what it leaves untouched.
-- Assumes nothing.
use mathlib.Core.Path.{◌≡◌, refl, ap, ◌∙◌}
use mathlib.Core.Logic.{◌⊎◌, inl, inr, ⊎_elim}
use mathlib.Core.List.{List, ◌∷◌}
use mathlib.Core.Option.{Option, none, some}
use Prim.Native.Nat.{ℕ, ◌+◌, ◌-◌, ◌*◌, ◌/◌, ◌%◌, ◌≤◌, ◌<◌}
use native.Mathlib.Omega.{arith}
use borrow.Author.Tests.{ltb-true, ltb-false}
use lib.Dec.{ltb}
use lib.ListN.{length, get_or, drop, length-drop}
use lib.Seq.{drop-append_seam}
use Rattle.foundation.proofs.ChoiceLaws.{if_ind}
use Rattle.encoding.specs.Encoding.{unit_limit, byte_string_marker, unpacked, first_above255}
use Rattle.converter.specs.Conversions.{
  ConversionFault,
  too_many_units,
  nothing_there,
  wrong_form,
  unit_above255,
  first_unit_zero,
  units_area_too_short,
  old_units,
  old_fault,
  new_fault,
  Conversion,
  converted_to,
  conversion,
  old_to_new,
  new_to_old,
}
use Rattle.converter.specs.Statements.{FirstGiven, OldToNewNumber, NewToOldNumber, AnswerKept, longest_new, longest_old}
use Rattle.converter.proofs.CaseLaws.{
  OldReady,
  NewReady,
  OldCase,
  old_long,
  old_empty,
  old_marked,
  old_above,
  old_ready,
  NewCase,
  new_long,
  new_empty,
  new_alone,
  new_unmarked,
  new_above,
  new_ones,
  new_ready,
  old_case,
  new_case,
}
use Rattle.converter.proofs.ConversionLaws.{length_marked, length-packed}

-- the cause applies, or the number is given further on
here : {cause rest : Type 0} (n m : ℕ) → n ≡ m → cause → FirstGiven n m cause rest
here n m e c = ((λ x. c, λ x. e), λ a. absurd (a c))

later : {cause rest : Type 0} (n m : ℕ) → (n ≡ m → ⊥) → (cause → ⊥) → rest → FirstGiven n m cause rest
later n m e c r = ((λ x. absurd (e x), λ x. absurd (c x)), λ a. r)

-- 12, or 0
room-number : (area units : List ℕ) (size : ℕ) → size ≡ length units
    → (P : ℕ → Type 0) → (length area < size → P 12) → (size ≤ length area → P 0) → P (converted_to area units).number
room-number area units size e P f g =
    if_ind (λ (a : Conversion). P a.number) (ltb (length area) (length units)) (λ t. f (omega (arith, ltb-true (length area) (length units) t, e)))
    λ t. g (omega (arith, ltb-false (length area) (length units) t, e))

none_some : {A : Type 0} {o : Option A} → o ≡ none → ((a : A) × (o ≡ some a)) → ⊥
none_some e s = let f = s.1 in let z : ◌≡◌ {A = ℕ} 0 1 = cc in omega arith

pub old_numbers : (area d1 : List ℕ) → OldToNewNumber area d1 (old_to_new area d1).number
unfolding old_to_new
old_numbers area d1 = go (old_fault d1) (old_case d1)
  where
    ready : OldReady d1 → (n : ℕ) → (n ≡ 1 → ⊥) → (n ≡ 5 → ⊥) → (n ≡ 15 → ⊥) → (n ≡ 6 → ⊥)
        → FirstGiven n 12 (length area < 1 + 7 * length d1 / 8) (n ≡ 0)
        → OldToNewNumber area d1 n
    ready r n a b c d last =
        later n 1 a (λ h. omega (arith, r.within))
        (later n 5 b r.there (later n 15 c r.unmarked (later n 6 d (none_some r.bytes) last)))

    go : (o : Option ConversionFault) → OldCase d1 o → OldToNewNumber area d1 (conversion area o (byte_string_marker ∷ unpacked d1)).number
    go (some too_many_units) (old_long h) = here 1 1 refl h
    go (some nothing_there) (old_empty w e) = later 5 1 (λ x. omega arith) (λ h. omega arith) (here 5 5 refl e)
    go (some wrong_form) (old_marked w t m) =
        later 15 1 (λ x. omega arith) (λ h. omega arith) (later 15 5 (λ x. omega arith) t (here 15 15 refl m))
    go (some (unit_above255 unit)) (old_above w t n a) =
        later 6 1 (λ x. omega arith) (λ h. omega arith)
        (later 6 5 (λ x. omega arith) t (later 6 15 (λ x. omega arith) n (here 6 6 refl (unit, a))))
    go (some first_unit_zero) o = elim o [ ]
    go (some units_area_too_short) o = elim o [ ]
    go none (old_ready r) =
        room-number area (byte_string_marker ∷ unpacked d1) (1 + 7 * length d1 / 8) (omega (arith, length_marked d1)) (OldToNewNumber area d1)
        (λ h. ready r 12 (λ x. omega arith) (λ x. omega arith) (λ x. omega arith) (λ x. omega arith) (here 12 12 refl h))
        λ h.
        ready r 0 (λ x. omega arith) (λ x. omega arith) (λ x. omega arith) (λ x. omega arith)
        (later 0 12 (λ x. omega arith) (λ l. omega arith) refl)

pub new_numbers : (area d1 : List ℕ) → NewToOldNumber area d1 (new_to_old area d1).number
unfolding new_to_old
new_numbers area d1 = go (new_fault d1) (new_case d1)
  where
    nothing : {A : Type 0} → (length d1 ≡ 0 → ⊥) → (length d1 ≡ 1 → ⊥) → (length d1 ≡ 0) ⊎ ((length d1 ≡ 1) × A) → ⊥
    nothing t m x = ⊎_elim t (λ y. m y.0) x

    marked : (n : ℕ) → length d1 ≤ unit_limit → (length d1 ≡ 0 → ⊥) → get_or d1 0 0 ≡ byte_string_marker → (length d1 ≡ 1 → ⊥) → (n ≡ 1 → ⊥) → (n ≡ 5 → ⊥)
        → (n ≡ 15 → ⊥)
        → FirstGiven n 6 ((unit : ℕ) × (first_above255 d1 ≡ some unit))
        (FirstGiven n 16 (get_or d1 1 0 % 128 ≡ 127) (FirstGiven n 12 (length area < (8 * (length d1 - 1) + 6) / 7) (n ≡ 0)))
        → NewToOldNumber area d1 n
    marked n w t m o a b c last = later n 1 a (λ h. omega arith) (later n 5 b (nothing t o) (later n 15 c (λ f. f m) last))

    ready : NewReady d1 → (n : ℕ) → (n ≡ 1 → ⊥) → (n ≡ 5 → ⊥) → (n ≡ 15 → ⊥) → (n ≡ 6 → ⊥) → (n ≡ 16 → ⊥)
        → FirstGiven n 12 (length area < (8 * (length d1 - 1) + 6) / 7) (n ≡ 0)
        → NewToOldNumber area d1 n
    ready r n a b c d e last =
        marked n r.within r.there r.marked r.more a b c (later n 6 d (none_some r.bytes) (later n 16 e r.other last))

    go : (o : Option ConversionFault) → NewCase d1 o → NewToOldNumber area d1 (conversion area o (old_units (drop 1 d1))).number
    go (some too_many_units) (new_long h) = here 1 1 refl h
    go (some nothing_there) (new_empty w e) = later 5 1 (λ x. omega arith) (λ h. omega arith) (here 5 5 refl (inl e))
    go (some nothing_there) (new_alone w m e) = later 5 1 (λ x. omega arith) (λ h. omega arith) (here 5 5 refl (inr (e, m)))
    go (some wrong_form) (new_unmarked w t m) =
        later 15 1 (λ x. omega arith) (λ h. omega arith)
        (later 15 5 (λ x. omega arith) (λ x. ⊎_elim t (λ y. m y.1) x) (here 15 15 refl m))
    go (some (unit_above255 unit)) (new_above w t m n a) =
        marked 6 w t m n (λ x. omega arith) (λ x. omega arith) (λ x. omega arith) (here 6 6 refl (unit, a))
    go (some first_unit_zero) (new_ones w t m n b o) =
        marked 16 w t m n (λ x. omega arith) (λ x. omega arith) (λ x. omega arith)
        (later 16 6 (λ x. omega arith) (none_some b) (here 16 16 refl o))
    go (some units_area_too_short) o = elim o [ ]
    go none (new_ready r) =
        room-number area (old_units (drop 1 d1)) ((8 * (length d1 - 1) + 6) / 7) (omega (arith, length-packed (drop 1 d1), length-drop 1 d1))
        (NewToOldNumber area d1)
        (λ h. ready r 12 (λ x. omega arith) (λ x. omega arith) (λ x. omega arith) (λ x. omega arith) (λ x. omega arith) (here 12 12 refl h))
        λ h.
        ready r 0 (λ x. omega arith) (λ x. omega arith) (λ x. omega arith) (λ x. omega arith) (λ x. omega arith)
        (later 0 12 (λ x. omega arith) (λ l. omega arith) refl)

-- areas that are always enough
pub old_enough : (area d1 : List ℕ) (n : ℕ) → OldToNewNumber area d1 n → longest_new ≤ length area → n ≡ 12 → ⊥
old_enough area d1 n h room e =
    let within : unit_limit < length d1 → ⊥ = λ c. omega (arith, h.0.1 c) in
    let five = h.1 within in
    let fifteen = five.1 λ c. omega (arith, five.0.1 c) in
    let six = fifteen.1 λ c. omega (arith, fifteen.0.1 c) in
    let twelve = six.1 λ c. omega (arith, six.0.1 c) in
    omega (arith, twelve.0.0 e)

pub new_enough : (area d1 : List ℕ) (n : ℕ) → NewToOldNumber area d1 n → longest_old ≤ length area → n ≡ 12 → ⊥
new_enough area d1 n h room e =
    let within : unit_limit < length d1 → ⊥ = λ c. omega (arith, h.0.1 c) in
    let five = h.1 within in
    let fifteen = five.1 λ c. omega (arith, five.0.1 c) in
    let six = fifteen.1 λ c. omega (arith, fifteen.0.1 c) in
    let sixteen = six.1 λ c. omega (arith, six.0.1 c) in
    let twelve = sixteen.1 λ c. omega (arith, sixteen.0.1 c) in
    omega (arith, twelve.0.0 e)

-- a refusal's detail is the unit of 6, else 0; it leaves the area
kept-refused : (area d1 : List ℕ) (fault : ConversionFault) → ((unit : ℕ) → fault ≡ unit_above255 unit → first_above255 d1 ≡ some unit)
    → (units : List ℕ)
    → AnswerKept area d1 (conversion area (some fault) units)
kept-refused area d1 fault h units = record {
  unit = six fault h;
  no_detail = zero-else fault;
  untouched = λ n. (refl, refl);
  inside = omega arith;
  past = refl;
}
  where
    six : (f : ConversionFault) → ((unit : ℕ) → f ≡ unit_above255 unit → first_above255 d1 ≡ some unit) → (conversion area (some f) units).number ≡ 6
        → first_above255 d1 ≡ some (conversion area (some f) units).detail
    six too_many_units h e = absurd (omega arith)
    six nothing_there h e = absurd (omega arith)
    six wrong_form h e = absurd (omega arith)
    six (unit_above255 unit) h e = h unit refl
    six first_unit_zero h e = absurd (omega arith)
    six units_area_too_short h e = absurd (omega arith)

    zero-else : (f : ConversionFault) → ((conversion area (some f) units).number ≡ 6 → ⊥) → (conversion area (some f) units).detail ≡ 0
    zero-else too_many_units n = refl
    zero-else nothing_there n = refl
    zero-else wrong_form n = refl
    zero-else (unit_above255 unit) n = absurd (n refl)
    zero-else first_unit_zero n = refl
    zero-else units_area_too_short n = refl

kept : (area d1 units : List ℕ) (o : Option ConversionFault) → ((unit : ℕ) → o ≡ some (unit_above255 unit) → first_above255 d1 ≡ some unit)
    → AnswerKept area d1 (conversion area o units)
kept area d1 units none h =
    if_ind (AnswerKept area d1) (ltb (length area) (length units))
    (λ t. kept-refused area d1 units_area_too_short (λ unit e. let z : ◌≡◌ {A = ℕ} 0 1 = cc in absurd (omega arith)) units) λ t. record {
      unit = λ e. absurd (omega arith);
      no_detail = λ n. refl;
      untouched = λ n. absurd (n refl);
      inside = ltb-false (length area) (length units) t;
      past = drop-append_seam units (drop (length units) area);
    }
kept area d1 units (some fault) h = kept-refused area d1 fault (λ unit e. h unit (ap some e)) units

pub old_kept : (area d1 : List ℕ) → AnswerKept area d1 (old_to_new area d1)
unfolding old_to_new
old_kept area d1 = kept area d1 (byte_string_marker ∷ unpacked d1) (old_fault d1) (λ unit e. go (old_fault d1) unit (old_case d1) e)
  where
    go : (o : Option ConversionFault) (unit : ℕ) → OldCase d1 o → o ≡ some (unit_above255 unit) → first_above255 d1 ≡ some unit
    go (some too_many_units) unit (old_long h) e = cc
    go (some nothing_there) unit (old_empty w z) e = cc
    go (some wrong_form) unit (old_marked w t m) e = cc
    go (some (unit_above255 u)) unit (old_above w t n a) e = let f : u ≡ unit = cc in a ∙ ap some f
    go (some first_unit_zero) unit o e = elim o [ ]
    go (some units_area_too_short) unit o e = elim o [ ]
    go none unit (old_ready r) e = cc

pub new_kept : (area d1 : List ℕ) → AnswerKept area d1 (new_to_old area d1)
unfolding new_to_old
new_kept area d1 = kept area d1 (old_units (drop 1 d1)) (new_fault d1) (λ unit e. go (new_fault d1) unit (new_case d1) e)
  where
    go : (o : Option ConversionFault) (unit : ℕ) → NewCase d1 o → o ≡ some (unit_above255 unit) → first_above255 d1 ≡ some unit
    go (some too_many_units) unit (new_long h) e = cc
    go (some nothing_there) unit (new_empty w z) e = cc
    go (some nothing_there) unit (new_alone w m z) e = cc
    go (some wrong_form) unit (new_unmarked w t m) e = cc
    go (some (unit_above255 u)) unit (new_above w t m n a) e = let f : u ≡ unit = cc in a ∙ ap some f
    go (some first_unit_zero) unit (new_ones w t m n b o) e = cc
    go (some units_area_too_short) unit o e = elim o [ ]
    go none unit (new_ready r) e = cc
