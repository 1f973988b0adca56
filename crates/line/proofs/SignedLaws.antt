-- A number of 4 bytes with its sign: what the machine's 32 bits say.
-- Assumes nothing.
use mathlib.Core.Path.{◌≡◌, refl, sym, ap, subst, ◌∙◌}
use mathlib.Core.Bool.{true, false}
use Prim.Native.Nat.{ℕ, zero, suc, ◌-◌, ◌<◌, ◌≤◌}
use native.Mathlib.Nat.{zero-add}
use native.Mathlib.Omega.{arith}
use borrow.Author.Tests.{lt-ltb, le-ltb, ltb-true, ltb-false}
use lib.Dec.{ltb}
use Rattle.foundation.proofs.ChoiceLaws.{if_ind}
use borrow.Author.Rules.{sfits_of}
use lib.IntN.{ℤ, pos, negsuc, ◌-ℤ◌}
use mir.Syntax.{w32}
use mir.Val.{SFits, to_z, of_z}
use mir.Facts.{to_z-of_z}
use Rattle.line.specs.Input.{signed_of}

pub signed_is : (n : ℕ) → to_z w32 n ≡ signed_of n
signed_is n = if_ind (λ z. to_z w32 n ≡ z) (ltb n 2147483648) low high
  where
    low : ltb n 2147483648 ≡ true → to_z w32 n ≡ pos n
    low t = rw t

    high : ltb n 2147483648 ≡ false → to_z w32 n ≡ negsuc (4294967295 - n)
    high t = let e : 4294967296 - suc n ≡ 4294967295 - n = omega arith in rw t (ap negsuc e)

-- the same in two halves: the lower as it is, the upper taken from -1
pub signed_low : (n : ℕ) → n < 2147483648 → to_z w32 n ≡ signed_of n
signed_low n h = signed_is n

pub low_half : (n : ℕ) → n < 2147483648 → to_z w32 n ≡ pos n
low_half n h = rw (lt-ltb n 2147483648 h)

minus_one_less : (m : ℕ) → negsuc 0 -ℤ pos m ≡ negsuc m
minus_one_less zero = refl
minus_one_less (suc m) = ap (λ (k : ℕ). negsuc (suc k)) (zero-add m)

high_half : (n : ℕ) → 2147483648 ≤ n → negsuc 0 -ℤ to_z w32 (4294967295 - n) ≡ negsuc (4294967295 - n)
high_half n h =
    let f : 4294967295 - n < 2147483648 = omega arith in
    ap (λ (z : ℤ). negsuc 0 -ℤ z) (low_half (4294967295 - n) f) ∙ minus_one_less (4294967295 - n)

pub high_fits : (n : ℕ) → 2147483648 ≤ n → SFits w32 (negsuc 0 -ℤ to_z w32 (4294967295 - n))
high_fits n h =
    let f : 4294967295 - n < 2147483648 = omega arith in
    subst (SFits w32) (sym (high_half n h)) (sfits_of f)

pub signed_high : (n : ℕ) → 2147483648 ≤ n → to_z w32 (of_z w32 (negsuc 0 -ℤ to_z w32 (4294967295 - n))) ≡ signed_of n
signed_high n h = to_z-of_z (high_fits n h) ∙ high_half n h ∙ rw (le-ltb n 2147483648 h)

pub signed-fits : (n : ℕ) → n < 4294967296 → SFits w32 (signed_of n)
signed-fits n h =
    if_ind (SFits w32) (ltb n 2147483648) (λ t. sfits_of (ltb-true _ _ t)) high
  where
    high : ltb n 2147483648 ≡ false → SFits w32 (negsuc (4294967295 - n))
    high t =
        let k : 2147483648 ≤ n = ltb-false _ _ t in
        let f : 4294967295 - n < 2147483648 = omega arith in
        sfits_of f

-- handed on as bits
pub signed_back : {z : ℤ} {m : ℕ} (n : ℕ) → z ≡ signed_of m → m ≡ n → m < 4294967296 → to_z w32 (of_z w32 z) ≡ signed_of n
signed_back {z} {m} n e f h = to_z-of_z (subst (SFits w32) (sym e) (signed-fits m h)) ∙ e ∙ ap signed_of f
