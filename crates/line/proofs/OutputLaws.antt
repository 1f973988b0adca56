-- The line's digits, and texts written one after the other.
-- Assumes nothing.
use mathlib.Core.Path.{◌≡◌, refl, sym, ap, ◌∙◌}
use mathlib.Core.List.{List, [], ◌∷◌, ◌++◌}
use Prim.Native.Nat.{ℕ, zero, suc, ◌+◌, ◌*◌, ◌/◌, ◌%◌, ◌^◌, ◌≤◌, ◌<◌}
use native.Mathlib.Numerals.{add-one}
use native.Mathlib.Omega.{arith}
use mathlib.Core.Bool.{false}
use borrow.Author.Tests.{lt-ltb, le-ltb}
use lib.ListN.{length, get_or, set, drop, length-append, drop_of_length-le}
use lib.Dec.{ltb}
use lib.Seq.{sets, drop-cons}
use Rattle.foundation.proofs.ChoiceLaws.{if_ind}
use Rattle.foundation.proofs.OverlayLaws.{sets_then}
use Rattle.std.specs.Fmt as Fmt
use Rattle.std.specs.Fmt.{digit_glyph}
use Rattle.std.proofs.Common.{rules}
use Rattle.std.proofs.lemmas.Fmt.{AppendsLastDigit, decimal_from_appends, length-decimal-le}
use Rattle.line.specs.Line.{decimal_within, decimal, hex_of, part_of, line_of}
use Rattle.line.specs.Wrote.{Wrote}

-- the line's decimal is std's: both put the last digit after those of what is left
appends : AppendsLastDigit decimal_within
appends = record {
  one = λ k n h. rw (lt-ltb n 10 h) (search rules);
  more = λ k n h. rw (le-ltb n 10 h) (search rules);
}

decimal-length : (k n : ℕ) → length (decimal_within k n) ≤ k
decimal-length zero n = omega arith
decimal-length (suc k) n =
    if_ind (λ (ds : List ℕ). length ds ≤ suc k) (ltb n 10) (λ t. omega arith) λ t.
    rw (length-append (decimal_within k (n / 10)) (digit_glyph false (n % 10) ∷ [])) (omega (arith, decimal-length k (n / 10)))

pub decimal-short : (n : ℕ) → length (decimal n) ≤ 20
unfolding decimal
decimal-short n = decimal-length 20 n

-- 20 digits are enough for 64 bits
decimal_is : (n : ℕ) → n < 2 ^ 64 → Fmt.decimal n ≡ decimal n
unfolding decimal
decimal_is n h =
    let wide : n < 10 ^ 20 = omega arith in
    sym (decimal_from_appends decimal_within appends 20 n h (length-decimal-le 20 n (omega arith) wide h))

-- what `itoa` made is written
pub wrote_decimal : (n at : ℕ) (made S S' : List ℕ) → n < 2 ^ 64 → made ≡ Fmt.decimal n → S' ≡ sets S at made → Wrote (decimal n) at (at + length made) S S'
wrote_decimal n at made S S' h e w =
    let d : made ≡ decimal n = e ∙ decimal_is n h in
    record { ends = ap (λ (ds : List ℕ). at + length ds) d; area = w ∙ ap (λ (ds : List ℕ). sets S at ds) d }

-- two texts, one after the other
pub wrote_then : {t u S S' S'' : List ℕ} {at m r : ℕ} → Wrote t at m S S' → Wrote u m r S' S'' → Wrote (t ++ u) at r S S''
wrote_then {t} {u} {S} {S'} {S''} {at} {m} {r} p q = record {
  ends = omega (arith, p.ends, q.ends, length-append t u);
  area = sets_then t u S at p.area p.ends q.area;
}

-- one character
pub wrote_one : (b at : ℕ) {S S' : List ℕ} → S' ≡ set S at b → Wrote (b ∷ []) at (at + 1) S S'
wrote_one b at e = record { ends = refl; area = e }

pub length-hex : (bs : List ℕ) → length (hex_of bs) ≡ 2 * length bs
unfolding hex_of
length-hex [] = refl
length-hex (b ∷ bs) = omega (arith, length-hex bs)

pub hex-step : (bs whole area : List ℕ) (place i : ℕ) → i < length bs → whole ≡ sets area place (hex_of (drop i bs))
    → whole ≡ sets (set (set area place (digit_glyph false (get_or bs i 0 / 16))) (place + 1) (digit_glyph false (get_or bs i 0 % 16))) (place + 2) (hex_of (drop (i + 1) bs))
unfolding hex_of
hex-step bs whole area place i h e =
    let two : place + 2 ≡ suc (suc place) = omega arith in
    e ∙ rw (drop-cons bs i 0 h, add-one, add-one, two)

-- a byte's two digits, put one after the other
pub hex-put : (bs whole area : List ℕ) (place i : ℕ) {g h : ℕ} {S S' : List ℕ} → i < length bs
    → g ≡ digit_glyph false (get_or bs i 0 / 16) → S ≡ set area place g → h ≡ digit_glyph false (get_or bs i 0 % 16) → S' ≡ set S (place + 1) h
    → whole ≡ sets area place (hex_of (drop i bs)) → whole ≡ sets S' (place + 2) (hex_of (drop (i + 1) bs))
hex-put bs whole area place i l p q r t e =
    hex-step bs whole area place i l e ∙ sym (rw (t, q, p, r))

-- the place counted from where they begin
pub hex-placed : (bs whole area : List ℕ) (at i : ℕ) {g h : ℕ} {S S' : List ℕ} → i < length bs
    → g ≡ digit_glyph false (get_or bs i 0 / 16) → S ≡ set area (at + 2 * i) g → h ≡ digit_glyph false (get_or bs i 0 % 16)
    → S' ≡ set S (at + 2 * i + 1) h → whole ≡ sets area (at + 2 * i) (hex_of (drop i bs))
    → whole ≡ sets S' (at + 2 * (i + 1)) (hex_of (drop (i + 1) bs))
hex-placed bs whole area at i {S' = S'} l p q r t e =
    let n : at + 2 * i + 2 ≡ at + 2 * (i + 1) = omega arith in
    hex-put bs whole area (at + 2 * i) i l p q r t e ∙ ap (λ (k : ℕ). sets S' k (hex_of (drop (i + 1) bs))) n

hex_done : (bs area : List ℕ) (place i : ℕ) → length bs ≤ i → sets area place (hex_of (drop i bs)) ≡ area
unfolding hex_of
hex_done bs area place i h = rw (drop_of_length-le bs h)

pub hex-end : (bs first area : List ℕ) (at i : ℕ) → length bs ≤ i
    → sets first at (hex_of bs) ≡ sets area (at + 2 * i) (hex_of (drop i bs)) → Wrote (hex_of bs) at (at + 2 * length bs) first area
hex-end bs first area at i h e =
    record { ends = omega (arith, length-hex bs); area = sym (e ∙ hex_done bs area (at + 2 * i) i h) }

-- a part is a space and "-" or digits
pub part-empty : (bs : List ℕ) {at : ℕ} {S S' S'' : List ℕ} → length bs ≡ 0 → S' ≡ set S at 0x20 → S'' ≡ set S' (at + 1) 0x2d
    → Wrote (part_of bs) at (at + 2) S S''
unfolding part_of
part-empty [] {at} e p q = record { ends = refl; area = q ∙ rw (p, add-one) }
part-empty (b ∷ bs) e p q = absurd (omega arith)

pub part-digits : (bs : List ℕ) {at r : ℕ} {S S' S'' : List ℕ} → (length bs ≡ 0 → ⊥) → S' ≡ set S at 0x20 → Wrote (hex_of bs) (at + 1) r S' S''
    → Wrote (part_of bs) at r S S''
unfolding part_of
part-digits [] n p q = absurd (n refl)
part-digits (b ∷ bs) {at} n p q = wrote_then (wrote_one 0x20 at p) q

pub part_length : (bs : List ℕ) → length (part_of bs) ≤ 2 + 2 * length bs
unfolding part_of
part_length [] = omega arith
part_length (b ∷ bs) = omega (arith, length-hex (b ∷ bs))

pub wrote_line : (number detail : ℕ) (sheet text : List ℕ) {S S₁ S₂ S₃ S₄ S₅ S₆ : List ℕ} {a b c d : ℕ}
    → Wrote (decimal number) 0 a S S₁ → S₂ ≡ set S₁ a 0x20 → Wrote (decimal detail) (a + 1) b S₂ S₃
    → Wrote (part_of sheet) b c S₃ S₄ → Wrote (part_of text) c d S₄ S₅ → S₆ ≡ set S₅ d 0x0a
    → Wrote (line_of number detail sheet text) 0 (d + 1) S S₆
unfolding line_of
wrote_line number detail sheet text {a = a} {d = d} n p m s t q =
    wrote_then n (wrote_then (wrote_one 0x20 a p) (wrote_then m (wrote_then s (wrote_then t (wrote_one 0x0a d q)))))
