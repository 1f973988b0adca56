-- Bytes packed and unpacked are the same bytes; units unpacked and packed are the same units exactly if they are as packing makes them.
-- Assumes nothing.
use mathlib.Core.Path.{◌≡◌, refl, sym, ap, subst, ◌∙◌}
use mathlib.Core.List.{List, [], ◌∷◌, map}
use Prim.Native.Nat.{ℕ, zero, suc, ◌+◌, ◌-◌, ◌*◌, ◌/◌, ◌%◌, ◌^◌, ◌≤◌, ◌<◌}
use native.Mathlib.Nat.{mul-zero, one-mul, pow-zero, pow-suc, mod-eq_of_lt, mod-le, mod-lt, one-le-pow}
use native.Mathlib.Omega.{arith}
use lib.ListN.{length, get_or, length-map}
use lib.Pow.{pow-add, pow_mono}
use Rattle.foundation.specs.Choices.{All}
use Rattle.foundation.specs.Digits.{number, digits}
use Rattle.foundation.proofs.DigitLaws.{Below, length_digits, digits-below, number_digits, digits_number, number-below}
use Rattle.encoding.specs.Encoding.{low_seven, unpacked}
use Rattle.encoding.proofs.EncodingLaws.{length-unpacked}
use Rattle.converter.specs.Conversions.{carrying, old_units}
use Rattle.converter.specs.Statements.{AsPacked}
use Rattle.converter.proofs.ConversionLaws.{length-packed}

-- a group, carried and taken out again, and a unit below 128, its group taken out and carried
carried : (gs : List ℕ) → Below 128 gs → map low_seven (map carrying gs) ≡ gs
carried [] h = refl
carried (g ∷ gs) h =
    let e : ((g + 1) % 128 + 127) % 128 ≡ g = omega (arith, h.0) in
    rw (e, carried gs h.1)

taken : (us : List ℕ) → All (λ u. u < 128) us → map carrying (map low_seven us) ≡ us
taken [] h = refl
taken (u ∷ us) h =
    let e : ((u + 127) % 128 + 1) % 128 ≡ u = omega (arith, h.0) in
    rw (e, taken us h.1)

-- powers of both bases are powers of two
pow_of : (b k n : ℕ) → b ≡ 2 ^ k → b ^ n ≡ 2 ^ (k * n)
pow_of b k zero e = simp (mul-zero, pow-zero)
pow_of b k (suc n) e =
    let s : k * suc n ≡ k * n + k = omega arith in
    rw (pow-suc, pow_of b k n e, s, pow-add 2 (k * n) k, e)

-- as many groups as cover the bytes hold their number
pub packed_back : (bs : List ℕ) → Below 256 bs → unpacked (old_units bs) ≡ bs
unfolding old_units unpacked
packed_back bs h =
    let k = (8 * length bs + 6) / 7 in
    let groups = digits 128 k (number 256 bs) in
    let same : map low_seven (map carrying groups) ≡ groups = carried groups (digits-below 128 k (number 256 bs) (omega arith)) in
    let bits : 8 * length bs ≤ 7 * k = omega arith in
    let few : number 256 bs < 128 ^ k =
    subst (λ (x : ℕ). number 256 bs < x) (sym (pow_of 128 7 k refl))
    (omega (arith, number-below 256 bs h, pow_of 256 8 (length bs) refl, pow_mono bits)) in
    let all : number 128 groups ≡ number 256 bs = number_digits 128 k (number 256 bs) (omega arith) ∙ mod-eq_of_lt few in
    let n : 7 * length (map carrying groups) / 8 ≡ length bs = simp (length-map, length_digits) (omega arith) in
    rw (same, all, n, digits_number 256 bs h)

-- so many bytes are carried by these units: 7n bits less the spare ones
bits_of : (n : ℕ) → 1 ≤ n → 256 ^ (7 * n / 8) ≡ 128 ^ (n - 1) * 2 ^ (7 - 7 * n % 8)
bits_of n h =
    let e : 8 * (7 * n / 8) ≡ 7 * (n - 1) + (7 - 7 * n % 8) = omega arith in
    pow_of 256 8 (7 * n / 8) refl ∙ ap (λ (x : ℕ). 2 ^ x) e ∙ pow-add 2 (7 * (n - 1)) (7 - 7 * n % 8)
    ∙ ap (λ (x : ℕ). x * 2 ^ (7 - 7 * n % 8)) (sym (pow_of 128 7 (n - 1) refl))

-- the last group bounds the number of all, and is bounded by it
top_below : (us : List ℕ) (j q : ℕ) → length us ≡ suc j → low_seven (get_or us j 0) < q → number 128 (map low_seven us) < 128 ^ j * q
top_below [] j q e h = absurd (omega arith)
top_below (u ∷ []) zero q e h = rw (pow-zero, one-mul) (omega (arith, h))
top_below (u ∷ v ∷ us) zero q e h = absurd (omega arith)
top_below (u ∷ us) (suc j) q e h = rw pow-suc (omega (arith, top_below us j q (omega arith) h))

below_top : (us : List ℕ) (j q : ℕ) → length us ≡ suc j → number 128 (map low_seven us) < 128 ^ j * q → low_seven (get_or us j 0) < q
below_top [] j q e h = absurd (omega arith)
below_top (u ∷ []) zero q e h = let l : (u + 127) % 128 + 0 < 1 * q = rw pow-zero at h in omega arith
below_top (u ∷ v ∷ us) zero q e h = absurd (omega arith)
below_top (u ∷ us) (suc j) q e h =
    let l : (u + 127) % 128 + 128 * number 128 (map low_seven us) < 128 ^ j * 128 * q = rw pow-suc at h in
    below_top us j q (omega arith) (omega arith)

carrying-below : (gs : List ℕ) → All (λ u. u < 128) (map carrying gs)
carrying-below [] = tt
carrying-below (g ∷ gs) = (omega arith, carrying-below gs)

-- units of both forms are bytes
pub packed-below : (bs : List ℕ) → Below 256 (old_units bs)
unfolding old_units
packed-below bs = go (digits 128 ((8 * length bs + 6) / 7) (number 256 bs))
  where
    go : (gs : List ℕ) → Below 256 (map carrying gs)
    go [] = tt
    go (g ∷ gs) = (omega arith, go gs)

pub unpacked-below : (us : List ℕ) → Below 256 (unpacked us)
unfolding unpacked
unpacked-below us = digits-below 256 (7 * length us / 8) (number 128 (map low_seven us)) (omega arith)

module _ (us : List ℕ) (there : length us ≡ 0 → ⊥) where
  value : ℕ
  value = number 128 (map low_seven us)

  pub unpacked-back : AsPacked us → old_units (unpacked us) ≡ us
  unfolding old_units unpacked value
  unpacked-back p =
      let m = 7 * length us / 8 in
      let last : length us - 1 < length us = omega arith in
      let n : (8 * m + 6) / 7 ≡ length us = omega (arith, p.no_fewer (length us - 1) last) in
      let few : value < 256 ^ m = rw (bits_of (length us) (omega arith)) (top_below us (length us - 1) _ (omega arith) p.spare_zero) in
      let all : number 256 (digits 256 m value) ≡ value = number_digits 256 m value (omega arith) ∙ mod-eq_of_lt few in
      let groups : digits 128 (length us) value ≡ map low_seven us =
      ap (λ (k : ℕ). digits 128 k value) (sym (length-map us low_seven)) ∙ digits_number 128 (map low_seven us) (low_below us) in
      rw (length_digits 256 m value, n, all, groups, taken us p.below)
    where
      low_below : (vs : List ℕ) → Below 128 (map low_seven vs)
      low_below [] = tt
      low_below (v ∷ vs) = (omega arith, low_below vs)

  pub back-packed : old_units (unpacked us) ≡ us → AsPacked us
  unfolding old_units unpacked value
  back-packed e =
      let m = 7 * length us / 8 in
      let k = (8 * length (digits 256 m value) + 6) / 7 in
      let v = number 256 (digits 256 m value) in
      let n : (8 * m + 6) / 7 ≡ length us = omega (arith, length-packed (unpacked us), ap length e, length-unpacked us) in
      let same : digits 128 k v ≡ map low_seven us = sym (carried (digits 128 k v) (digits-below 128 k v (omega arith))) ∙ ap (map low_seven) e in
      let low : value ≡ v % 128 ^ k = ap (number 128) (sym same) ∙ number_digits 128 k v (omega arith) in
      let high : v < 256 ^ m =
      subst (λ (x : ℕ). x < 256 ^ m) (sym (number_digits 256 m value (omega arith))) (mod-lt value (one-le-pow m 256 (omega arith))) in
      let few : value < 256 ^ m = omega (arith, low, high, mod-le v (128 ^ k)) in
      record {
        below = subst (All (λ u. u < 128)) e (carrying-below (digits 128 k v));
        no_fewer = λ i h. omega arith;
        spare_zero = below_top us (length us - 1) _ (omega arith) (subst (λ (x : ℕ). value < x) (bits_of (length us) (omega arith)) few);
      }
