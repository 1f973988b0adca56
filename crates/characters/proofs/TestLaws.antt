-- Laws of tests, and of the characters among the numbers.
-- Assumes nothing.
use mathlib.Core.Path.{◌≡◌, refl, ap, ◌∙◌, subst}
use mathlib.Core.Bool.{Bool, true, false, ◌&&◌, ◌||◌, and-false}
use mathlib.Core.Logic.{◌⊎◌, inl, inr}
use Prim.Native.Nat.{ℕ, suc, ◌≤◌, ◌<◌}
use native.Mathlib.Omega.{arith}
use borrow.Author.Tests.{ltb-true, ltb-false, lt-ltb, le-ltb, lt-leb}
use lib.Dec.{T, leb, ltb, le→leb, leb→le}
use Rattle.foundation.proofs.EveryLaws.{each}
use Rattle.characters.specs.Characters.{is_scalar, between}

-- A test that holds, and two in a row.
pub holds : (t : Bool) → T t → t ≡ true
holds true h = refl
holds false h = absurd h

both : (a b : Bool) → T a → T b → T (a && b)
both true b p q = q
both false b p q = p

pub neither : (a b : Bool) → a || b ≡ false → (a ≡ false) × (b ≡ false)
neither true b e = (e, let z : true ≡ false = e in cc)
neither false b e = (refl, e)

-- A number below another or not, and between two others or not.
pub below : {P : Type 0} (n c : ℕ) → (c < n → P) → (n ≤ c → P) → P
below {P} n c p q = go (ltb c n) refl
  where
    go : (t : Bool) → ltb c n ≡ t → P
    go true e = p (ltb-true c n e)
    go false e = q (ltb-false c n e)

pub in_between : (low high n : ℕ) → (low ≤ n) × (n ≤ high) → T (between low high n)
in_between low high n h = both (leb low n) (leb n high) (le→leb low n h.0) (le→leb n high h.1)

pub within : (low high n : ℕ) → low ≤ n → n ≤ high → between low high n ≡ true
within low high n h k = holds (between low high n) (in_between low high n (h, k))

pub bounds : (low high n : ℕ) → T (between low high n) → (low ≤ n) × (n ≤ high)
bounds low high n h = let e = each (leb low n) (leb n high) h in (leb→le low n e.0, leb→le n high e.1)

pub above : (low high n : ℕ) → high < n → between low high n ≡ false
above low high n h = ap (λ (t : Bool). leb low n && t) (lt-leb n high h) ∙ and-false (leb low n)

pub under : (low high n : ℕ) → n < low → between low high n ≡ false
under low high n h = ap (λ (t : Bool). t && leb n high) (lt-leb low n h)

-- by the tests of code
pub apart : (low high n : ℕ) → (n < low) ⊎ ((low ≤ n) × (high < n)) → between low high n ≡ false
apart low high n (inl h) = under low high n h
apart low high n (inr h) = above low high n h.1

pub outside : (low high n : ℕ) → between low high n ≡ false → low ≤ n → high < n
outside low high n e h = below (suc high) n (λ k. absurd (subst T e (in_between low high n (omega arith)))) λ k. k

-- A character is no surrogate and at most 10FFFF hex.
pub scalar_bounds : (c : ℕ) → T (is_scalar c) → (0xd800 ≤ c → 0xe000 ≤ c) × (c ≤ 0x10ffff)
unfolding is_scalar
scalar_bounds c s = go (ltb c 0xd800) refl s
  where
    go : (t : Bool) → ltb c 0xd800 ≡ t → T (t || between 0xe000 0x10ffff c) → (0xd800 ≤ c → 0xe000 ≤ c) × (c ≤ 0x10ffff)
    go true e h = omega (arith, ltb-true)
    go false e h = omega (arith, bounds 0xe000 0x10ffff c h)

pub scalar_below : (c : ℕ) → c < 0xd800 → T (is_scalar c)
unfolding is_scalar
scalar_below c h = rw (lt-ltb c 0xd800 h) tt

pub scalar_above : (c : ℕ) → 0xe000 ≤ c → c ≤ 0x10ffff → T (is_scalar c)
unfolding is_scalar
scalar_above c h k = rw (le-ltb c 0xd800 (omega arith)) (in_between 0xe000 0x10ffff c (h, k))
