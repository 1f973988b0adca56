-- Laws of packing: bytes cut into groups of 7 bits, group by group.
-- Assumes nothing.
use mathlib.Core.Path.{◌≡◌, refl, sym, ap, subst, ◌∙◌}
use mathlib.Core.List.{List, [], ◌∷◌, map}
use mathlib.Core.Option.{none}
use Prim.Native.Nat.{ℕ, suc, ◌+◌, ◌-◌, ◌*◌, ◌/◌, ◌%◌, ◌^◌, ◌≤◌, ◌<◌}
use native.Mathlib.Nat.{zero-add, sub-zero, one-mul, pow-suc, add-mul-mod_self_left, add-mul-div_left, mul-le-mul_right}
use native.Mathlib.Numerals.{add-one}
use native.Mathlib.Omega.{arith}
use lib.ListN.{length, set, length-set}
use lib.Pow.{pow_mono}
use lib.Seq.{sets}
use Rattle.std.proofs.Common.{Iter, Bor}
use Rattle.std.specs.Prelude as Std
use Rattle.std.specs.Prelude.{Some, None}
use Rattle.std.specs.Option.{unwrap_or, option_copied}
use Rattle.std.proofs.lemmas.Fn.{fronts}
use Rattle.foundation.specs.Digits.{number, digits}
use Rattle.foundation.proofs.DigitLaws.{Below}
use Rattle.encoding.specs.Encoding.{first_above255}
use Rattle.encoding.proofs.EncodingLaws.{none_above}
use Rattle.converter.specs.Conversions.{carrying, old_units}

-- how many units so many bytes take
abbrev count : List ℕ → ℕ
count bs = (8 * length bs + 6) / 7

-- the units that are left when j are written: the bits in `buffer`, and all bytes that are still to be taken
abbrev left : List ℕ → ℕ → ℕ → ℕ → List ℕ → List ℕ
left bs buffer scale j rest = map carrying (digits 128 (count bs - j) (buffer + scale * number 256 rest))

-- what holds on the way: `bits` bits are in `buffer`, and the bytes of `rest` are still to be taken
pub record Packing (bs before area : List ℕ) (buffer scale : ℕ) (rest : List ℕ) (j : ℕ) : Type 0 where
  pub bits : ℕ
  pub power : scale ≡ 2 ^ bits
  pub few : bits < 8
  pub below : buffer < scale
  pub bytes : Below 256 rest
  pub same : length area ≡ length before
  pub written : sets before 0 (old_units bs) ≡ sets area j (left bs buffer scale j rest)

pub pack_start : (bs before : List ℕ) {rest : List ℕ} → first_above255 bs ≡ none → rest ≡ bs → Packing bs before before 0 1 rest 0
unfolding old_units
pack_start bs before h e = record {
  bits = 0;
  power = refl;
  few = omega arith;
  below = omega arith;
  bytes = subst (Below 256) (sym e) (none_above bs h);
  same = refl;
  written = rw e (simp (sub-zero, one-mul, zero-add));
}

-- the next byte, of those that come: 0 past the last
pub record NextByte (rest : List ℕ) (d : ℕ) (rest' : List ℕ) : Type 0 where
  pub coming : number 256 rest ≡ d + 256 * number 256 rest'
  pub byte : Below 256 rest → d < 256
  pub others : Below 256 rest → Below 256 rest'

pub next_byte : (s : Iter ℕ) (r : Std.Option (Bor ℕ)) (t : Iter ℕ) {d : ℕ} → fronts s r t → d ≡ unwrap_or (option_copied r) 0 → NextByte s.rest.now d t.rest.now
next_byte s None t g e = none-left s.rest.now t.rest.now e g.0 (ap (λ (i : Iter ℕ). i.rest.now) g.1)
  where
    none-left : (rest rest' : List ℕ) {d : ℕ} → d ≡ 0 → length rest ≡ 0 → rest' ≡ rest → NextByte rest d rest'
    none-left [] rest' e h f = record { coming = rw (e, f); byte = λ b. omega arith; others = λ b. rw f tt }
    none-left (b ∷ rest) rest' e h f = absurd (omega arith)
next_byte s (Some x) t g e = record { coming = rw (g, e); byte = λ b. let h = subst (Below 256) g b in omega (arith, h.0); others = λ b. (subst (Below 256) g b).1 }

-- the group that stands lowest, then what is left
next_group : (k m low high total : ℕ) → m ≡ suc k → total ≡ low + 128 * high
    → map carrying (digits 128 m total) ≡ carrying (low % 128) ∷ map carrying (digits 128 k (low / 128 + high))
next_group k m low high total e t =
    let p : 0 < 128 = omega arith in
    rw (e, t, add-mul-mod_self_left low 128 high, add-mul-div_left low high p)

held_below : (buffer scale d : ℕ) → buffer < scale → d < 256 → buffer + d * scale < 256 * scale
held_below buffer scale d h l = let m : d ≤ 255 = omega arith in omega (arith, mul-le-mul_right scale m)

scale_small : (b scale : ℕ) → scale ≡ 2 ^ b → b < 8 → scale ≤ 128
scale_small b scale p h = let m : b ≤ 7 = omega arith in omega (arith, pow_mono m)

scale_half : (b scale : ℕ) → scale ≡ 2 ^ b → b < 8 → (scale ≡ 128 → ⊥) → b < 7
scale_half b scale p h n = let m : b ≡ 7 → ⊥ = λ e. n (p ∙ ap (λ (x : ℕ). 2 ^ x) e) in omega (arith, m)

pub pack_scale : (bs before area : List ℕ) (buffer scale : ℕ) (rest : List ℕ) (j : ℕ) → Packing bs before area buffer scale rest j → scale ≤ 128
pack_scale bs before area buffer scale rest j p = scale_small p.bits scale p.power p.few

module _ (bs before area : List ℕ) (buffer scale : ℕ) (rest : List ℕ) (j : ℕ) (inside : j < count bs) (p : Packing bs before area buffer scale rest j) where
  one_less : count bs - j ≡ suc (count bs - (j + 1))
  one_less = omega arith

  -- seven bits are held: they are a group
  pub pack-held : (area' : List ℕ) (u : ℕ) → scale ≡ 128 → u ≡ carrying buffer → area' ≡ set area j u → Packing bs before area' 0 1 rest (j + 1)
  pack-held area' u h is e =
      let n = number 256 rest in
      let t : buffer + scale * n ≡ buffer + 128 * n = rw h in
      let low : buffer % 128 ≡ buffer = omega (arith, p.below) in
      let high : buffer / 128 + n ≡ 0 + 1 * n = omega (arith, p.below) in
      let group : left bs buffer scale j rest ≡ carrying (buffer % 128) ∷ map carrying (digits 128 (count bs - (j + 1)) (buffer / 128 + n)) =
      next_group _ _ buffer n _ one_less t in
      record {
        bits = 0;
        power = refl;
        few = omega arith;
        below = omega arith;
        bytes = p.bytes;
        same = ap length e ∙ length-set area j u ∙ p.same;
        written =
            p.written
            ∙ ap (sets area j) group
            ∙ rw (low, high, e, is, add-one j);
      }

  module _ (d : ℕ) (rest' : List ℕ) (n : NextByte rest d rest') where
    taken-below : buffer + d * scale < 256 * scale
    taken-below = held_below buffer scale d p.below (n.byte p.bytes)

    pub taken-fits : buffer + d * scale < 32768
    taken-fits = omega (arith, taken-below, pack_scale bs before area buffer scale rest j p)

    -- else the next byte's bits come
    pub pack-byte : (area' : List ℕ) (u : ℕ) → (scale ≡ 128 → ⊥) → u ≡ carrying ((buffer + d * scale) % 128) → area' ≡ set area j u
        → Packing bs before area' ((buffer + d * scale) / 128) (scale * 2) rest' (j + 1)
    pack-byte area' u h unit e =
        let taken = buffer + d * scale in
        let m = number 256 rest' in
        let t : buffer + scale * number 256 rest ≡ taken + 128 * (scale * 2 * m) = rw n.coming (omega arith) in
        record {
          bits = suc p.bits;
          power = omega (arith, p.power, pow-suc 2 p.bits);
          few = omega (arith, scale_half p.bits scale p.power p.few h);
          below = omega (arith, taken-below);
          bytes = n.others p.bytes;
          same = ap length e ∙ length-set area j u ∙ p.same;
          written = p.written ∙ ap (sets area j) (next_group _ _ taken (scale * 2 * m) _ one_less t) ∙ rw (e, unit, add-one j);
        }
