-- The header of joined fields: number 15, length-delimited, with a length of three bytes.
-- Assumes nothing.
use mathlib.Core.Path.{◌≡◌, refl, ap, sym, ◌∙◌}
use mathlib.Core.List.{List, ◌∷◌}
use Prim.Native.Nat.{ℕ, ◌+◌, ◌-◌, ◌*◌, ◌/◌, ◌%◌, ◌≤◌, ◌<◌}
use native.Mathlib.Omega.{arith}
use lib.ListN.{length, get_or}
use Rattle.std.specs.Prelude.{Ok}
use Rattle.foundation.specs.Results.{Res, got, Got, map_got}
use Rattle.foundation.specs.Digits.{number}
use Rattle.foundation.specs.declared.Read.{Read}
use Rattle.wire.specs.Wire.{body, field, read_varint, read_field}
use Rattle.wire.specs.told.WireTold.{rest_of, part_between, FieldTold}
use Rattle.joined_types.specs.told.Runs.{joined_field}
use Rattle.wire.proofs.VarintLaws.{groups-last, groups-more, one_byte}
use Rattle.wire.proofs.FieldLaws.{delimited-there, value-body, field-value}

-- a varint of three bytes
three_bytes : (base : ℕ) (s : List ℕ) (at : ℕ) {b c d : ℕ} → at + 2 < length s → b ≡ get_or s at 0 → 128 ≤ b → c ≡ get_or s (at + 1) 0 → 128 ≤ c
    → d ≡ get_or s (at + 1 + 1) 0 → d < 128
    → read_varint (rest_of base s at) ≡ got (b % 128 + 128 * (c % 128 + 128 * d)) (rest_of base s (at + 1 + 1 + 1))
unfolding read_varint
three_bytes base s at {b} {c} {d} h e l f k g m =
    let n : b % 128 + 128 * (c % 128 + 128 * (d % 128 + 128 * 0)) ≡ b % 128 + 128 * (c % 128 + 128 * d) = omega arith in
    ap (map_got (number 128)) (groups-more (base + at) base s at 9 (omega arith) e l)
    ∙ ap (λ (r : Res (Got (List ℕ))). map_got (number 128) (map_got (λ gs. b % 128 ∷ gs) r)) (groups-more (base + at) base s (at + 1) 8 (omega arith) f k)
    ∙ ap (λ (r : Res (Got (List ℕ))). map_got (number 128) (map_got (λ gs. b % 128 ∷ gs) (map_got (λ gs. c % 128 ∷ gs) r)))
    (groups-last (base + at) base s (at + 1 + 1) 7 (omega arith) g m)
    ∙ ap (λ (n : ℕ). got n (rest_of base s (at + 1 + 1 + 1))) n

-- the header stands there, with a length of n
pub record HeaderAt (s : List ℕ) (from n : ℕ) : Type 0 where
  pub tag : get_or s from 0 ≡ 122
  pub first : get_or s (from + 1) 0 ≡ n % 128 + 128
  pub second : get_or s (from + 2) 0 ≡ n / 128 % 128 + 128
  pub third : get_or s (from + 3) 0 ≡ n / 16384

pub header_read : (s : List ℕ) (from to : ℕ) → from + 4 ≤ to → to ≤ length s → to - from - 4 < 2097152 → HeaderAt s from (to - from - 4)
    → (base : ℕ) → FieldTold base s (read_field (rest_of base s from)) (Ok (joined_field from to))
header_read s from to h l f w base =
    let n = to - from - 4 in
    let two : from + 1 + 1 ≡ from + 2 = omega arith in
    let three : from + 1 + 1 + 1 ≡ from + 3 = omega arith in
    let four : from + 1 + 1 + 1 + 1 ≡ from + 4 = omega arith in
    let tag = one_byte base s from {b = 122} (omega arith) (sym w.tag) (omega arith) in
    let many = three_bytes base s (from + 1) {b = n % 128 + 128} {c = n / 128 % 128 + 128} {d = n / 16384} (omega arith) (sym w.first) (omega arith)
    (sym w.second ∙ ap (λ (i : ℕ). get_or s i 0) (sym two)) (omega arith) (sym w.third ∙ ap (λ (i : ℕ). get_or s i 0) (sym three)) (omega arith) in
    let is : (n % 128 + 128) % 128 + 128 * ((n / 128 % 128 + 128) % 128 + 128 * (n / 16384)) ≡ n = omega arith in
    let length_read : read_varint (rest_of base s (from + 1)) ≡ got n (rest_of base s (from + 4)) = many ∙ rw (is, four) in
    let x : Read ℕ = record { value = n; next = from + 4 } in
    let end : from + 4 + n ≡ to = omega arith in
    let delimited = delimited-there base s (from + 1) x length_read (omega arith) ∙ ap (λ (e : ℕ). got (part_between base s (from + 4) e) (rest_of base s e)) end in (
      field-value (rest_of base s from) tag refl
          ∙ ap (map_got (field 15)) (value-body (base + from) (rest_of base s (from + 1)) refl ∙ ap (map_got body) delimited),
      (omega arith, l, omega arith),
    )
