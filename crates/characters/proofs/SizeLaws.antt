-- How long a text of 16-bit units is in UTF-8, by its units.
-- Assumes nothing.
use mathlib.Core.Path.{◌≡◌, refl, ap, sym, subst, ◌∙◌}
use mathlib.Core.Bool.{Bool, true, false, ◌&&◌, ◌||◌, and-false}
use mathlib.Core.List.{List, [], ◌∷◌}
use Prim.Native.Nat.{ℕ, ◌+◌, ◌-◌, ◌*◌, ◌/◌, ◌≤◌, ◌<◌}
use native.Mathlib.Nat.{le_refl, zero-add}
use native.Mathlib.Omega.{arith}
use borrow.Author.Tests.{eq-eqb, eqb-true}
use lib.Dec.{T, eqb}
use lib.ListN.{length, get_or}
use Rattle.std.specs.Prelude.{if◌then◌else◌}
use Rattle.foundation.proofs.ChoiceLaws.{if_ind, and_right}
use Rattle.characters.specs.Characters.{between, width, utf8, is_high, is_low, lone, pair, replacement, from_utf16}
use Rattle.characters.specs.told.Places.{part_from}
use Rattle.characters.specs.told.Sizes.{unit_size, units_size}
use Rattle.characters.proofs.TestLaws.{below, bounds, under, above, within}
use Rattle.characters.proofs.Utf8Laws.{by_width}
use Rattle.characters.proofs.LengthLaws.{bytes_cons}
use Rattle.characters.proofs.PartLaws.{rest-is}
use Rattle.characters.proofs.UnitLaws.{units-cons, units-ended}

-- Widths of characters by where they lie.
pub width_one : (c : ℕ) → c < 0x80 → width c ≡ 1
width_one c l =
    by_width (λ n bs. n ≡ 1) c (λ h. refl) (λ h k. absurd (omega arith)) (λ h k. absurd (omega arith)) λ h. absurd (omega arith)

pub width_two : (c : ℕ) → 0x80 ≤ c → c < 0x800 → width c ≡ 2
width_two c l m =
    by_width (λ n bs. n ≡ 2) c (λ h. absurd (omega arith)) (λ h k. refl) (λ h k. absurd (omega arith)) λ h. absurd (omega arith)

pub width_three : (c : ℕ) → 0x800 ≤ c → c < 0x10000 → width c ≡ 3
width_three c l m =
    by_width (λ n bs. n ≡ 3) c (λ h. absurd (omega arith)) (λ h k. absurd (omega arith)) (λ h k. refl) λ h. absurd (omega arith)

width_four : (c : ℕ) → 0x10000 ≤ c → width c ≡ 4
width_four c l =
    by_width (λ n bs. n ≡ 4) c (λ h. absurd (omega arith)) (λ h k. absurd (omega arith)) (λ h k. absurd (omega arith)) λ h. refl

-- A first half of a pair, and its other half, by 10 bits.
in_range_lem : (low high n : ℕ) → between low high n ≡ true → (low ≤ n) × (n ≤ high)
in_range_lem low high n e = bounds low high n (subst T (sym e) tt)

module _ (q n : ℕ) where
  half : n / 1024 ≡ q → between (q * 1024) (q * 1024 + 1023) n ≡ true
  half e = within (q * 1024) (q * 1024 + 1023) n (omega arith) (omega arith)

  not-half : (n / 1024 ≡ q → ⊥) → between (q * 1024) (q * 1024 + 1023) n ≡ false
  not-half e =
      below (q * 1024) n (λ h. under (q * 1024) (q * 1024 + 1023) n h) λ h.
      below (q * 1024 + 1024) n (λ k. absurd (e (omega arith))) λ k. above (q * 1024) (q * 1024 + 1023) n (omega arith)

  half_is : eqb (n / 1024) q ≡ between (q * 1024) (q * 1024 + 1023) n
  half_is = go (eqb (n / 1024) q) refl
    where
      go : (t : Bool) → eqb (n / 1024) q ≡ t → t ≡ between (q * 1024) (q * 1024 + 1023) n
      go true e = sym (half (eqb-true (n / 1024) q e))
      go false e = sym (not-half λ f. let g = eq-eqb (n / 1024) q f in let z : ◌≡◌ {A = ℕ} 0 1 = cc in absurd (omega arith))

-- What the code answers for a unit.
module _ (u v : ℕ) where
  pub pair-first : (u / 1024 ≡ 54 → ⊥) → false ≡ (is_high u && is_low v)
  pair-first h = rw (not-half 54 u h)

  pub pair-next : u / 1024 ≡ 54 → eqb (v / 1024) 55 ≡ (is_high u && is_low v)
  pair-next h = rw (half 54 u h) (half_is 55 v)

  pub size-paired : {r : Bool} → r ≡ (is_high u && is_low v) → r ≡ true → (1 ≡ unit_size u v) × (1 ≤ 3)
  unfolding unit_size
  size-paired h k = (rw (sym h ∙ k), omega arith)

  module _ {r : Bool} (h : r ≡ (is_high u && is_low v)) (k : r ≡ false) where
    alone : width u ≡ unit_size u v
    unfolding unit_size
    alone = rw (sym h ∙ k)

    pub size-alone : (n : ℕ) → n ≤ 3 → width u ≡ n → (n ≡ unit_size u v) × (n ≤ 3)
    size-alone n l w = (sym w ∙ alone, l)

-- A surrogate alone takes as much as U+FFFD for it.
lone-width : (u : ℕ) → width (lone u) ≡ width u
lone-width u =
    if_ind (λ (c : ℕ). width c ≡ width u) (is_high u || is_low u)
    (λ e. width_three replacement (omega arith) (omega arith) ∙ sym (high-or-low (is_high u) refl e)) λ e. refl
  where
    high-or-low : (t : Bool) → is_high u ≡ t → (t || is_low u) ≡ true → width u ≡ 3
    high-or-low true e f = let b = in_range_lem 0xd800 0xdbff u e in width_three u (omega arith) (omega arith)
    high-or-low false e f = let b = in_range_lem 0xdc00 0xdfff u f in width_three u (omega arith) (omega arith)

-- the other half of a pair is the first of none
low-size : (v : ℕ) (us : List ℕ) → is_low v ≡ true → units_size (v ∷ us) ≡ 3 + units_size us
unfolding units_size unit_size
low-size v [] e = let b = in_range_lem 0xdc00 0xdfff v e in width_three v (omega arith) (omega arith)
low-size v (w ∷ us) e =
    let b = in_range_lem 0xdc00 0xdfff v e in
    rw (above 0xd800 0xdbff v (omega arith), width_three v (omega arith) (omega arith))

pair-width : (u v : ℕ) → width (pair u v) ≡ 4
pair-width u v = width_four (pair u v) (omega arith)

-- The units of a text tell how long it is.
pub size_is : (us : List ℕ) → units_size us ≡ length (utf8 (from_utf16 us))
unfolding from_utf16 units_size utf8 unit_size
size_is [] = refl
size_is (u ∷ []) = omega (arith, bytes_cons (lone u) [], lone-width u)
size_is (u ∷ v ∷ us) = go (is_high u && is_low v) refl (size_is (v ∷ us)) (size_is us)
  where
    go : (t : Bool) → (is_high u && is_low v) ≡ t → units_size (v ∷ us) ≡ length (utf8 (from_utf16 (v ∷ us))) → units_size us ≡ length (utf8 (from_utf16 us))
        → (if t then 1 else width u) + units_size (v ∷ us) ≡ length (utf8 (if t then pair u v ∷ from_utf16 us else lone u ∷ from_utf16 (v ∷ us)))
    go true e p q =
        let l = low-size v us (and_right (is_high u) (is_low v) e) in
        omega (arith, bytes_cons (pair u v) (from_utf16 us), pair-width u v)
    go false e p q = omega (arith, bytes_cons (lone u) (from_utf16 (v ∷ us)), lone-width u)

ends : (u : ℕ) → width u ≡ unit_size u 0
unfolding unit_size
ends u = rw (and-false (is_high u))

-- The sums of the loops: of the unit at a place, and of the last.
module _ (s : List ℕ) (i end : ℕ) where
  pub size_step : i + 1 < end → end ≤ length s
      → units_size (part_from i end s) ≡ unit_size (get_or s i 0) (get_or s (i + 1) 0) + units_size (part_from (i + 1) end s)
  unfolding units_size
  size_step h k =
      let p = units-cons s i end (omega arith) (omega arith) in
      let q = units-cons s (i + 1) end h (omega arith) in
      ap units_size (p ∙ ap (λ (l : List ℕ). get_or s i 0 ∷ l) q)
      ∙ ap (λ (l : List ℕ). unit_size (get_or s i 0) (get_or s (i + 1) 0) + units_size l) (sym q)

  pub size-last : i + 1 ≡ end → end ≤ length s → units_size (part_from i end s) ≡ unit_size (get_or s i 0) 0
  unfolding units_size
  size-last h k =
      let p = units-cons s i end (omega arith) (omega arith) in
      ap units_size (p ∙ ap (λ (l : List ℕ). get_or s i 0 ∷ l) (units-ended s (i + 1) end (omega arith)))
      ∙ ends (get_or s i 0)

-- Some units were summed up, so that what they add and what the rest adds is the whole, wherever the text ends.
pub record Summing (s : List ℕ) (from to i size : ℕ) : Type 0 where
  pub reached : from ≤ i
  pub inside : i ≤ to
  pub most : size ≤ 3 * (i - from)
  pub sums : (end : ℕ) → to < end → end ≤ length s → size + units_size (part_from i end s) ≡ units_size (part_from from end s)

pub summing_start : (s : List ℕ) (from to : ℕ) → from ≤ to → Summing s from to from 0
summing_start s from to h = record { reached = le_refl from; inside = h; most = omega arith; sums = λ end k l. zero-add (units_size (part_from from end s)) }

module _ {s : List ℕ} {from to i size : ℕ} (g : Summing s from to i size) where
  pub summing-end : to ≤ i → (end : ℕ) → to < end → end ≤ length s → size + units_size (part_from to end s) ≡ units_size (part_from from end s)
  summing-end h end k l =
      let e : to ≡ i = omega (arith, g.inside) in
      ap (λ (n : ℕ). size + units_size (part_from n end s)) e ∙ g.sums end k l

  module _ {r : ℕ} (h : i < to) (a : (r ≡ unit_size (get_or s i 0) (get_or s (i + 1) 0)) × (r ≤ 3)) where
    pub summing-fits : to - from ≤ 16384 → size + r < 65536
    summing-fits k = omega (arith, g.most, g.reached, a.1)

    pub summing-next : Summing s from to (i + 1) (size + r)
    summing-next = record {
      reached = omega (arith, g.reached);
      inside = omega arith;
      most = omega (arith, g.most, g.reached, a.1);
      sums = λ end k l. let e = size_step s i end (omega arith) l in let f = g.sums end k l in omega (arith, a.0);
    }

-- The same up to a text's last unit.
pub record Measuring (s : List ℕ) (i size : ℕ) : Type 0 where
  pub inside : i < length s
  pub sums : size + units_size (part_from i (length s) s) ≡ units_size s

pub measuring_start : (s : List ℕ) → 0 < length s → Measuring s 0 0
measuring_start s h = record { inside = h; sums = zero-add (units_size (part_from 0 (length s) s)) ∙ ap units_size (rest-is s 0) }

pub measuring-there : {s : List ℕ} {i size : ℕ} (n : ℕ) → n ≡ i → Measuring s i size → Measuring s n size
measuring-there {s} {i} {size} n e g = subst (λ (k : ℕ). Measuring s k size) (sym e) g

module _ {s : List ℕ} {i size : ℕ} (g : Measuring s i size) where
  module _ (to r : ℕ) {w : ℕ} (h : to < length s)
      (a : (e : ℕ) → to < e → e ≤ length s → r + units_size (part_from to e s) ≡ units_size (part_from i e s)) (b : w ≡ r) where
    pub measuring-next : Measuring s to (size + w)
    measuring-next = record { inside = h; sums = let f = a (length s) h (le_refl (length s)) in omega (arith, g.sums) }

  pub measuring-fits : (K : ℕ) → length (utf8 (from_utf16 s)) < K → size < K
  measuring-fits K h = let f = size_is s in omega (arith, g.sums)

  module _ (r : ℕ) {w : ℕ} (h : i + 1 ≡ length s) (a : (r ≡ unit_size (get_or s i 0) 0) × (r ≤ 3)) (b : w ≡ r) where
    pub measuring-end : size + w ≡ length (utf8 (from_utf16 s))
    measuring-end = let f = size-last s i (length s) h (le_refl (length s)) in omega (arith, g.sums, size_is s, a.0)

    pub measuring-whole : (K : ℕ) → length (utf8 (from_utf16 s)) < K → size + w < K
    measuring-whole K k = omega (arith, measuring-end)

pub measuring_none : (s : List ℕ) → length s ≡ 0 → 0 ≡ length (utf8 (from_utf16 s))
unfolding from_utf16 utf8
measuring_none [] h = refl
measuring_none (u ∷ s) h = absurd (omega arith)
