-- How long the texts are, in characters and in bytes of UTF-8.
-- Assumes nothing.
use mathlib.Core.Path.{◌≡◌, ap, ◌∙◌}
use mathlib.Core.Bool.{◌&&◌, ◌||◌}
use mathlib.Core.List.{List, [], ◌∷◌, ◌++◌}
use Prim.Native.Nat.{ℕ, zero, suc, ◌+◌, ◌-◌, ◌*◌, ◌^◌, ◌≤◌, ◌<◌}
use native.Mathlib.Nat.{mod-le, le_refl}
use native.Mathlib.Omega.{arith}
use lib.Dec.{T, eqb, ltb, ltb→lt}
use lib.ListN.{length, take, length-append}
use Rattle.foundation.specs.Texts.{Text}
use Rattle.foundation.proofs.ChoiceLaws.{if_ind}
use Rattle.characters.specs.Characters.{width, utf8_of, utf8, Range, in_range, leads, run, sixes, leading, step, replacement, from_utf8_after, is_high, is_low, lone, pair, from_utf16}
use Rattle.characters.proofs.TestLaws.{bounds}
use Rattle.foundation.proofs.EveryLaws.{every_all}
use Rattle.characters.proofs.Utf8Laws.{by_width, utf8-length, utf8_append}
use Rattle.characters.specs.WellFormed.{Units}
use Rattle.characters.proofs.StepLaws.{step_ind}

-- a text of so many characters or bytes at most
abbrev pub AtMost : ℕ → Text → Type 0
AtMost n t = length t ≤ n

abbrev pub InBytes : ℕ → Text → Type 0
InBytes n t = length (utf8 t) ≤ n

-- A character takes one to four bytes, and one of 16 bits three at most.
pub width_most : (c : ℕ) → (1 ≤ width c) × (width c ≤ 4)
width_most c = by_width (λ n bs. (1 ≤ n) × (n ≤ 4)) c (λ h. omega arith) (λ h k. omega arith) (λ h k. omega arith) λ h. omega arith

width_three : (c : ℕ) → c < 65536 → width c ≤ 3
width_three c m = by_width (λ n bs. n ≤ 3) c (λ h. omega arith) (λ h k. omega arith) (λ h k. omega arith) λ h. absurd (omega arith)

-- the bytes of a text, by its first character, and of two in a row
pub bytes_cons : (c : ℕ) (t : Text) → length (utf8 (c ∷ t)) ≡ width c + length (utf8 t)
unfolding utf8
bytes_cons c t = length-append (utf8_of c) (utf8 t) ∙ ap (λ (n : ℕ). n + length (utf8 t)) (utf8-length c)

pub bytes-append : (s t : Text) → length (utf8 (s ++ t)) ≡ length (utf8 s) + length (utf8 t)
bytes-append s t = ap length (utf8_append s t) ∙ length-append (utf8 s) (utf8 t)

pub bytes_most : (t : Text) → length (utf8 t) ≤ 4 * length t
unfolding utf8
bytes_most [] = omega arith
bytes_most (c ∷ t) = omega (arith, bytes_cons c t, width_most c, bytes_most t)

-- From UTF-8: no more characters than bytes, and three times the bytes at most.
pub run_most : (rs : List Range) (bs : List ℕ) → run rs bs ≤ length bs
unfolding run
run_most [] bs = omega arith
run_most (r ∷ rs) [] = omega arith
run_most (r ∷ rs) (b ∷ bs) = if_ind (λ (n : ℕ). n ≤ suc (length bs)) (in_range r b) (λ t. omega (arith, run_most rs bs)) λ t. omega arith

sixes-width : (m n : ℕ) (bs : List ℕ) → m < 65536 → width (sixes m (take n bs)) ≤ 3 * suc n
sixes-width m zero bs h = width_three m h
sixes-width m (suc n) bs h = omega (arith, width_most (sixes m (take (suc n) bs)))

leading_most : (w b : ℕ) → leading w b ≤ b
leading_most w b = if_ind (λ (n : ℕ). n ≤ b) (eqb w 0) (λ e. le_refl b) λ e. mod-le b (2 ^ (6 - w))

pub step_most : (b : ℕ) (bs : List ℕ) → ((step b bs).after ≤ length bs) × (width (step b bs).character ≤ 3 * suc (step b bs).after)
step_most b bs =
    let r = width_three replacement (omega arith) in
    step_ind (λ l. T (ltb l.first.high 256)) (λ s. (s.after ≤ length bs) × (width s.character ≤ 3 * suc s.after)) b bs
    (every_all (λ l. ltb l.first.high 256) leads tt) (omega arith) λ l f p.
    let w = length l.following in
    let n = run l.following bs in
    let h = ltb→lt l.first.high 256 f in
    let small : leading w b < 65536 = omega (arith, leading_most w b, bounds l.first.low l.first.high b p) in
    (run_most l.following bs, if_ind (λ c. width c ≤ 3 * suc n) (eqb n w) (λ e. sixes-width (leading w b) n bs small) λ e. omega arith)

pub from_utf8-length : (j : ℕ) (bs : List ℕ) → length (from_utf8_after j bs) ≤ length bs - j
unfolding from_utf8_after
from_utf8-length j [] = omega arith
from_utf8-length (suc j) (b ∷ bs) = omega (arith, from_utf8-length j bs)
from_utf8-length zero (b ∷ bs) = omega (arith, from_utf8-length (step b bs).after bs)

pub from_utf8-bytes : (j : ℕ) (bs : List ℕ) → length (utf8 (from_utf8_after j bs)) ≤ 3 * (length bs - j)
unfolding from_utf8_after utf8
from_utf8-bytes j [] = omega arith
from_utf8-bytes (suc j) (b ∷ bs) = omega (arith, from_utf8-bytes j bs)
from_utf8-bytes zero (b ∷ bs) =
    let s = step b bs in
    omega (arith, step_most b bs, bytes_cons s.character (from_utf8_after s.after bs), from_utf8-bytes s.after bs)

-- From 16-bit units alike.
pub from_utf16-length : (us : List ℕ) → length (from_utf16 us) ≤ length us
unfolding from_utf16
from_utf16-length [] = omega arith
from_utf16-length (u ∷ []) = omega arith
from_utf16-length (u ∷ v ∷ us) =
    if_ind (AtMost (suc (suc (length us)))) (is_high u && is_low v)
    (λ e. omega (arith, from_utf16-length us)) λ e. omega (arith, from_utf16-length (v ∷ us))

lone-width : (u : ℕ) → u < 65536 → width (lone u) ≤ 3
lone-width u h = if_ind (λ c. width c ≤ 3) (is_high u || is_low u) (λ e. width_three replacement (omega arith)) λ e. width_three u h

pub from_utf16-bytes : (us : List ℕ) → Units us → length (utf8 (from_utf16 us)) ≤ 3 * length us
unfolding from_utf16 utf8
from_utf16-bytes [] h = omega arith
from_utf16-bytes (u ∷ []) h = omega (arith, bytes_cons (lone u) [], lone-width u h.0)
from_utf16-bytes (u ∷ v ∷ us) h =
    if_ind (InBytes (3 * suc (suc (length us)))) (is_high u && is_low v)
    (λ e. omega (arith, bytes_cons (pair u v) (from_utf16 us), width_most (pair u v), from_utf16-bytes us h.1.1))
    λ e. omega (arith, bytes_cons (lone u) (from_utf16 (v ∷ us)), lone-width u h.0, from_utf16-bytes (v ∷ us) h.1)
