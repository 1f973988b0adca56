-- Laws of the old form, unpacked unit by unit.
-- Assumes nothing.
use mathlib.Core.Path.{◌≡◌, refl, sym, ap, ◌∙◌}
use mathlib.Core.List.{List, ◌∷◌, map}
use Prim.Native.Nat.{ℕ, zero, suc, ◌+◌, ◌-◌, ◌*◌, ◌/◌, ◌%◌, ◌^◌, ◌≤◌, ◌<◌}
use native.Mathlib.Nat.{zero-add, sub-zero, one-mul, pow-suc, add-mul-mod_self_left, add-mul-div_left, mul-le-mul_right}
use native.Mathlib.Numerals.{add-one}
use native.Mathlib.Omega.{arith}
use lib.ListN.{length, get_or, drop, set, length-set}
use lib.Seq.{sets, drop-cons}
use Rattle.foundation.specs.Digits.{number, digits}
use Rattle.encoding.specs.Encoding.{low_seven, unpacked}

-- the bytes that are left when j are written: of the units before i the bits in `buffer`, and all units from i on
abbrev left : List ℕ → ℕ → ℕ → ℕ → ℕ → List ℕ
left us buffer scale j i = digits 256 (7 * length us / 8 - j) (buffer + scale * number 128 (map low_seven (drop i us)))

-- what holds on the way: `bits` bits are in `buffer`
pub record Unpacking (us before area : List ℕ) (buffer scale j i : ℕ) : Type 0 where
  pub bits : ℕ
  pub power : scale ≡ 2 ^ bits
  pub few : bits < 8
  pub small : scale ≤ 128
  pub count : 8 * j + bits ≡ 7 * i
  pub below : buffer < scale
  pub same : length area ≡ length before
  pub rest : sets before 0 (unpacked us) ≡ sets area j (left us buffer scale j i)

pub unpack_start : (us before : List ℕ) → Unpacking us before before 0 1 0 0
unfolding unpacked
unpack_start us before = record {
  bits = 0;
  power = refl;
  few = omega arith;
  small = omega arith;
  count = refl;
  below = omega arith;
  same = refl;
  rest = simp (sub-zero, one-mul, zero-add);
}

two_even : (b : ℕ) → 2 ^ b ≡ 1 → b ≡ 0
two_even zero h = refl
two_even (suc b) h = let e : 2 ^ b * 2 ≡ 1 = rw pow-suc at h in absurd (omega arith)

-- a power of two that isn't 1 has a half
halved : (b scale : ℕ) → scale ≡ 2 ^ b → (scale ≡ 1 → ⊥) → (k : ℕ) × ((b ≡ suc k) × (scale ≡ 2 ^ k * 2))
halved zero scale p h = absurd (h p)
halved (suc k) scale p h = (k, (refl, p ∙ pow-suc 2 k))

-- the next unit, of those that come
next_unit : (us : List ℕ) (i : ℕ) → i < length us
    → number 128 (map low_seven (drop i us)) ≡ low_seven (get_or us i 0) + 128 * number 128 (map low_seven (drop (i + 1) us))
next_unit us i h = rw (drop-cons us i 0 h, add-one i)

more-bits : (buffer scale d n : ℕ) → scale ≡ 1 → buffer + scale * (d + 128 * n) ≡ buffer + d * scale + 128 * n
more-bits buffer scale d n h = rw h (omega arith)

-- a byte, from the bits held and seven more, then what is left
next_byte : (k m buffer scale s d n rest : ℕ) → m ≡ suc k → scale ≡ s * 2 → rest ≡ d + 128 * n
    → digits 256 m (buffer + scale * rest) ≡ (buffer + d * scale) % 256 ∷ digits 256 k ((buffer + d * scale) / 256 + scale / 2 * n)
next_byte k m buffer scale s d n rest e p r =
    let h : scale / 2 ≡ s = omega arith in
    let low : 0 < 256 = omega arith in
    let x : buffer + scale * (d + 128 * n) ≡ buffer + d * scale + 256 * (s * n) = rw p (omega arith) in
    rw (e, r, x, h, add-mul-mod_self_left (buffer + d * scale) 256 (s * n), add-mul-div_left (buffer + d * scale) (s * n) low)

held_below : (buffer scale d : ℕ) → buffer < scale → d < 128 → buffer + d * scale < 128 * scale
held_below buffer scale d h l = let m : d ≤ 127 = omega arith in omega (arith, mul-le-mul_right scale m)

-- a turn: d is what the next unit carries
module _ (us before area : List ℕ) (buffer scale j i d : ℕ)
    (inside : i < length us)
    (is : d ≡ low_seven (get_or us i 0))
    (u : Unpacking us before area buffer scale j i)
  where
    taken-below : buffer + d * scale < 128 * scale
    taken-below = held_below buffer scale d u.below (omega arith)

    pub taken-fits : buffer + d * scale < 16384
    taken-fits = omega (arith, taken-below, u.small)

    coming : number 128 (map low_seven (drop i us)) ≡ d + 128 * number 128 (map low_seven (drop (i + 1) us))
    coming = next_unit us i inside ∙ ap (λ (n : ℕ). n + 128 * number 128 (map low_seven (drop (i + 1) us))) (sym is)

    -- nothing was held: seven bits are
    pub unpack-more : scale ≡ 1 → Unpacking us before area (buffer + d * scale) 128 j (i + 1)
    unpack-more h = record {
      bits = 7;
      power = refl;
      few = omega arith;
      small = omega arith;
      count = let z = two_even u.bits (sym u.power ∙ h) in omega (arith, u.count);
      below = omega (arith, taken-below);
      same = u.same;
      rest =
          u.rest
          ∙ ap (λ (n : ℕ). sets area j (digits 256 (7 * length us / 8 - j) n))
          (rw coming (more-bits buffer scale d (number 128 (map low_seven (drop (i + 1) us))) h));
    }

    -- else a byte is written
    pub unpack-byte : (scale ≡ 1 → ⊥)
        → Unpacking us before (set area j ((buffer + d * scale) % 256)) ((buffer + d * scale) / 256) (scale / 2) (j + 1) (i + 1)
    unpack-byte h =
        let s = halved u.bits scale u.power h in
        let e : scale ≡ 2 ^ s.0 * 2 = s.1.1 in
        let k : 7 * length us / 8 - j ≡ suc (7 * length us / 8 - (j + 1)) = omega (arith, u.count, u.few, s.1.0) in
        let taken = buffer + d * scale in
        record {
          bits = s.0;
          power = omega arith;
          few = omega (arith, u.few, s.1.0);
          small = omega (arith, u.small);
          count = omega (arith, u.count, s.1.0);
          below = omega (arith, taken-below);
          same = length-set area j (taken % 256) ∙ u.same;
          rest =
              u.rest
              ∙ ap (sets area j) (next_byte _ _ buffer scale (2 ^ s.0) d _ _ k e coming)
              ∙ ap (λ (n : ℕ). sets (set area j (taken % 256)) n (left us (taken / 256) (scale / 2) (j + 1) (i + 1))) (sym (add-one j));
        }
