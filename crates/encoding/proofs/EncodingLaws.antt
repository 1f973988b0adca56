-- Laws of d1's two forms: units above 255 and the marker form from a place on, and what d1 can be decoded to.
-- Assumes nothing.
use mathlib.Core.Path.{◌≡◌, refl, sym, ap, ◌∙◌}
use mathlib.Core.Bool.{Bool, true, false}
use mathlib.Core.List.{List, [], ◌∷◌, ◌++◌, map}
use mathlib.Core.Option.{Option, none, some}
use Prim.Native.Nat.{ℕ, zero, suc, ◌-◌, ◌*◌, ◌/◌, ◌≤◌, ◌<◌}
use native.Mathlib.Omega.{arith}
use borrow.Author.Tests.{le-ltb, eq-eqb, ne_eqb, ltb-false}
use lib.Bits.{bit_or, or_add_and, and_le_l, and_le_r}
use lib.Dec.{eqb, ltb}
use lib.ListN.{length, get_or, take, drop, length-drop}
use lib.Seq.{take_all}
use Rattle.std.specs.Prelude.{if◌then◌else◌, Some, None}
use Rattle.std.specs.Prelude as std
use Rattle.std.specs.List.{find}
use Rattle.foundation.specs.Choices.{if_some}
use Rattle.foundation.specs.Results.{empty_payload, not_a_byte, Res, ok, refused}
use Rattle.foundation.specs.Digits.{number}
use Rattle.foundation.proofs.ChoiceLaws.{if_ind}
use Rattle.foundation.proofs.ResultLaws.{Gives}
use Rattle.foundation.proofs.DigitLaws.{Below, length_digits, digits-below}
use Rattle.encoding.specs.Encoding.{byte_string_marker, low_seven, unpacked, first_above255, decoded}
use Rattle.encoding.specs.told.Outcome.{above_of}

-- where there is none, nor is there among the others
no_choice : (t : Bool) (u : ℕ) (later : Option ℕ) → (if t then some u else later) ≡ none → (t ≡ false) × (later ≡ none)
no_choice true u later h = (cc, cc)
no_choice false u later h = (refl, h)

-- the bits of all units so far are those of a byte: none of them is above 255
above-last : (us : List ℕ) (unit : ℕ) → first_above255 us ≡ none → unit ≤ 255 → first_above255 (us ++ unit ∷ []) ≡ none
unfolding first_above255
above-last [] unit e l = simp (le-ltb _ _ l)
above-last (u ∷ us) unit e l = let n = no_choice (ltb 255 u) u (first_above255 us) e in simp (n.0, above-last us unit n.1 l)

pub bytes_next : (us : List ℕ) (all unit : ℕ) → (all < 256 → first_above255 us ≡ none) → bit_or all unit < 256 → first_above255 (us ++ unit ∷ []) ≡ none
bytes_next us all unit h o =
    above-last us unit (h (omega (arith, or_add_and all unit, and_le_r all unit))) (omega (arith, or_add_and all unit, and_le_l all unit))

-- the search, as `find` has it
pub above-found : (us : List ℕ) → find (ltb 255) us ≡ above_of (first_above255 us)
unfolding first_above255
above-found [] = refl
above-found (u ∷ us) = go (ltb 255 u) (above-found us)
  where
    go : (t : Bool) → find (ltb 255) us ≡ above_of (first_above255 us) → (if t then Some u else find (ltb 255) us) ≡ above_of (if t then some u else first_above255 us)
    go true e = refl
    go false e = e

pub above_unit : (o : Option ℕ) {unit : ℕ} {r : std.Option ℕ} → r ≡ above_of o → r ≡ Some unit → o ≡ some unit
above_unit none e f = cc
above_unit (some u) e f = cc

pub above_nothing : (o : Option ℕ) {r : std.Option ℕ} → r ≡ above_of o → r ≡ None → o ≡ none
above_nothing none e f = refl
above_nothing (some u) e f = cc

-- where there is none, each unit is a byte
pub none_above : (us : List ℕ) → first_above255 us ≡ none → Below 256 us
unfolding first_above255
none_above [] h = tt
none_above (u ∷ us) h =
    let n = no_choice (ltb 255 u) u (first_above255 us) h in
    (omega (arith, ltb-false 255 u n.0), none_above us n.1)

below_at : (b : ℕ) (us : List ℕ) (i : ℕ) → 0 < b → Below b us → get_or us i 0 < b
below_at b [] i h a = h
below_at b (u ∷ us) zero h a = a.0
below_at b (u ∷ us) (suc i) h a = below_at b us i h a.1

pub byte_at : (us : List ℕ) (i : ℕ) → first_above255 us ≡ none → get_or us i 0 < 256
byte_at us i h = below_at 256 us i (omega arith) (none_above us h)

-- the units after the marker, as `&d1[1..]` has them
abbrev pub after_marker : List ℕ → List ℕ
after_marker us = take (length us - 1) (drop 1 us)

after_all : (us : List ℕ) → after_marker us ≡ drop 1 us
after_all us = take_all (length us - 1) (drop 1 us) (omega (arith, length-drop 1 us))

pub none_after : (us : List ℕ) → first_above255 us ≡ none → first_above255 (after_marker us) ≡ none
unfolding first_above255
none_after [] h = h
none_after (u ∷ us) h = ap first_above255 (after_all (u ∷ us)) ∙ (no_choice (ltb 255 u) u (first_above255 us) h).1

-- what d1 is decoded to, by what the code finds
pub decoded-empty : (us : List ℕ) → length us ≡ 0 → decoded us ≡ refused empty_payload 0
unfolding decoded
decoded-empty [] h = refl
decoded-empty (u ∷ us) h = absurd (omega arith)

pub decoded_above : (us : List ℕ) {unit : ℕ} → first_above255 us ≡ some unit → decoded us ≡ refused (not_a_byte unit) 0
unfolding decoded first_above255
decoded_above [] h = cc
decoded_above (u ∷ us) h = rw h

pub decoded-marked : (us : List ℕ) → (length us ≡ 0 → ⊥) → first_above255 us ≡ none → get_or us 0 0 ≡ byte_string_marker
    → decoded us ≡ ok (after_marker us)
unfolding decoded
decoded-marked [] n h e = absurd (n refl)
decoded-marked (u ∷ us) n h e = rw (h, after_all (u ∷ us)) (simp (eq-eqb _ _ e))

pub decoded_old : (us : List ℕ) → (length us ≡ 0 → ⊥) → first_above255 us ≡ none → (get_or us 0 0 ≡ byte_string_marker → ⊥)
    → decoded us ≡ ok (unpacked us)
unfolding decoded
decoded_old [] n h e = absurd (n refl)
decoded_old (u ∷ us) n h e = rw h (simp (ne_eqb _ _ e))

-- what holds of an empty d1, of a unit above 255 and of both forms' bytes holds of what d1 is decoded to
pub decoded_ind : (P : Res (List ℕ) → Type 0) (us : List ℕ)
    → P (refused empty_payload 0)
    → ((unit : ℕ) → P (refused (not_a_byte unit) 0))
    → (first_above255 us ≡ none → P (ok (drop 1 us)))
    → (first_above255 us ≡ none → P (ok (unpacked us)))
    → P (decoded us)
unfolding decoded
decoded_ind P [] empty above marked old = empty
decoded_ind P (u ∷ us) empty above marked old = go (first_above255 (u ∷ us)) refl
  where
    go : (o : Option ℕ) → first_above255 (u ∷ us) ≡ o
        → P (if_some o (ok (if eqb u byte_string_marker then us else unpacked (u ∷ us))) λ unit. refused (not_a_byte unit) 0)
    go none e = if_ind (λ (bytes : List ℕ). P (ok bytes)) (eqb u byte_string_marker) (λ t. marked e) λ t. old e
    go (some unit) e = above unit

pub length-unpacked : (us : List ℕ) → 7 * length us / 8 ≡ length (unpacked us)
unfolding unpacked
length-unpacked us = sym (length_digits 256 (7 * length us / 8) (number 128 (map low_seven us)))

-- no more bytes than units
pub decoded-length : (us : List ℕ) → Gives (λ (bytes : List ℕ). length bytes ≤ length us) (decoded us)
decoded-length us =
    decoded_ind (Gives (λ (bytes : List ℕ). length bytes ≤ length us)) us tt (λ unit. tt) (λ h. omega (arith, length-drop 1 us))
    λ h. omega (arith, length-unpacked us)

-- and they are bytes
pub decoded-below : (us : List ℕ) → Gives (Below 256) (decoded us)
unfolding unpacked
decoded-below us =
    decoded_ind (Gives (Below 256)) us tt (λ unit. tt) (λ h. none_above (drop 1 us) (ap first_above255 (sym (after_all us)) ∙ none_after us h))
    λ h. digits-below 256 (7 * length us / 8) (number 128 (map low_seven us)) (omega arith)
