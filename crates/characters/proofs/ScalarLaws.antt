-- What is read of bytes and of units is made of characters.
-- Assumes nothing.
use mathlib.Core.Path.{◌≡◌, refl, ap, sym, subst}
use mathlib.Core.Bool.{Bool, true, false, ◌&&◌, ◌||◌}
use mathlib.Core.List.{List, [], ◌∷◌, map}
use Prim.Native.Nat.{ℕ, zero, suc, ◌+◌, ◌-◌, ◌*◌, ◌/◌, ◌%◌, ◌^◌, ◌≤◌, ◌<◌}
use native.Mathlib.Nat.{le_trans, div-add-mod', div-eq_of_lt-le, div-mul-le_self}
use native.Mathlib.Omega.{arith}
use borrow.Author.Tests.{eqb-true, ltb-true}
use lib.Dec.{T, eqb, leb, ltb, ltb→lt, leb→le}
use lib.ListN.{length, take}
use Rattle.std.specs.Prelude.{if◌then◌else◌}
use Rattle.foundation.specs.Choices.{All}
use Rattle.foundation.proofs.ChoiceLaws.{if_ind}
use Rattle.characters.specs.Characters.{is_scalar, Range, in_range, Lead, leads, run, sixes, leading, step, replacement, from_utf8_after, is_high, is_low, lone, pair, from_utf16}
use Rattle.characters.specs.WellFormed.{Units, Fits, complete, fits}
use Rattle.characters.specs.told.CharactersTold.{Characters}
use Rattle.characters.proofs.TestLaws.{neither, below, bounds, outside, scalar_below, scalar_above}
use Rattle.foundation.proofs.EveryLaws.{each, every, every_all}
use Rattle.characters.proofs.Utf8Laws.{decoded}
use Rattle.characters.proofs.StepLaws.{step_ind}

-- Remainders ascend from a number to one in the same block of m.
mod_mono : (m a b : ℕ) → a ≤ b → b < (a / m + 1) * m → (b / m ≡ a / m) × (a % m ≤ b % m)
mod_mono m a b h k =
    let q : b / m ≡ a / m = div-eq_of_lt-le m (le_trans (div-mul-le_self a m) h) k in
    (q, omega (arith, div-add-mod' a m, div-add-mod' b m, ap (λ (n : ℕ). n * m) q))

-- a range inside a block of m
abbrev in_block : ℕ → Range → Bool
in_block m r = ltb r.high ((r.low / m + 1) * m)

mod_within : (m : ℕ) (r : Range) (b : ℕ) → T (in_block m r) → T (in_range r b) → (r.low % m ≤ b % m) × (b % m ≤ r.high % m)
mod_within m r b t p =
    let k = ltb→lt r.high ((r.low / m + 1) * m) t in
    let i = bounds r.low r.high b p in
    let x = mod_mono m r.low b i.0 (omega arith) in
    let y = mod_mono m b r.high i.1 (rw x.0 k) in
    (x.1, y.1)

-- The number that some bytes add to lies between the numbers of the ranges' ends.
sixes-within : {rs : List Range} {bs : List ℕ} → Fits rs bs → T (every (in_block 64) rs) → (m n o : ℕ) → m ≤ n → n ≤ o
    → (sixes m (map (λ r. r.low) rs) ≤ sixes n bs) × (sixes n bs ≤ sixes o (map (λ r. r.high) rs))
sixes-within complete t m n o h k = (h, k)
sixes-within (fits {r} {b} {rs} {bs} p q) t m n o h k =
    let a = each (in_block 64 r) (every (in_block 64) rs) t in
    let w = mod_within 64 r b a.0 p in
    sixes-within q a.1 (m * 64 + r.low % 64) (n * 64 + b % 64) (o * 64 + r.high % 64) (omega arith) (omega arith)

leading-within : (w : ℕ) (r : Range) (b : ℕ) → T (eqb w 0 || in_block (2 ^ (6 - w)) r) → T (in_range r b)
    → (leading w r.low ≤ leading w b) × (leading w b ≤ leading w r.high)
leading-within w r b t p = go (eqb w 0) t
  where
    m : ℕ
    m = 2 ^ (6 - w)

    go : (t : Bool) → T (t || in_block m r) → let bits : ℕ → ℕ = λ n. if t then n else n % m in (bits r.low ≤ bits b) × (bits b ≤ bits r.high)
    go true h = bounds r.low r.high b p
    go false h = mod_within m r b h p

-- The least and the greatest number of a row of the table: its bytes give a character if all between these are characters.
abbrev least : Lead → ℕ
least l = decoded l l.first.low (map (λ r. r.low) l.following)

abbrev greatest : Lead → ℕ
greatest l = decoded l l.first.high (map (λ r. r.high) l.following)

abbrev blocks : Lead → Bool
blocks l = (eqb (length l.following) 0 || in_block (2 ^ (6 - length l.following)) l.first) && every (in_block 64) l.following

abbrev scalars : ℕ → ℕ → Bool
scalars low high = ltb high 0xd800 || leb 0xe000 low && leb high 0x10ffff

scalars_between : (low high c : ℕ) → T (scalars low high) → low ≤ c → c ≤ high → T (is_scalar c)
scalars_between low high c t h k = go (ltb high 0xd800) refl t
  where
    go : (t : Bool) → ltb high 0xd800 ≡ t → T (t || leb 0xe000 low && leb high 0x10ffff) → T (is_scalar c)
    go true e p = scalar_below c (omega (arith, ltb-true))
    go false e p =
        let a = each (leb 0xe000 low) (leb high 0x10ffff) p in
        scalar_above c (omega (arith, leb→le 0xe000 low a.0)) (omega (arith, leb→le high 0x10ffff a.1))

abbrev fine : Lead → Bool
fine l = blocks l && scalars (least l) (greatest l)

decoded_scalar : (l : Lead) (b : ℕ) {bs : List ℕ} → T (fine l) → T (in_range l.first b) → Fits l.following bs
    → T (is_scalar (decoded l b bs))
decoded_scalar l b {bs} t p f =
    let w = length l.following in
    let a = each (blocks l) (scalars (least l) (greatest l)) t in
    let c = each (eqb w 0 || in_block (2 ^ (6 - w)) l.first) (every (in_block 64) l.following) a.0 in
    let e = leading-within w l.first b c.0 p in
    let s = sixes-within f c.1 (leading w l.first.low) (leading w b) (leading w l.first.high) e.0 e.1 in
    scalars_between (least l) (greatest l) (decoded l b bs) a.1 s.0 s.1

rows_fine : All (λ l. T (fine l)) leads
rows_fine = every_all fine leads tt

pub replacement_scalar : T (is_scalar replacement)
replacement_scalar = scalar_above replacement (omega arith) (omega arith)

-- the bytes that go on with a character fit, if they are as many as the row wants
run-takes : (rs : List Range) (bs : List ℕ) → run rs bs ≡ length rs → Fits rs (take (run rs bs) bs)
unfolding run
run-takes [] bs = λ e. complete
run-takes (r ∷ rs) [] = λ e. absurd (omega arith)
run-takes (r ∷ rs) (b ∷ bs) =
    if_ind (λ (n : ℕ). n ≡ suc (length rs) → Fits (r ∷ rs) (take n (b ∷ bs))) (in_range r b)
    (λ t e. fits (subst T (sym t) tt) (run-takes rs bs (omega arith))) λ t e. absurd (omega arith)

pub step_scalar : (b : ℕ) (bs : List ℕ) → T (is_scalar (step b bs).character)
step_scalar b bs =
    step_ind (λ l. T (fine l)) (λ s. T (is_scalar s.character)) b bs rows_fine replacement_scalar λ l f p.
    let n = run l.following bs in
    if_ind (λ c. T (is_scalar c)) (eqb n (length l.following))
    (λ e. decoded_scalar l b f p (run-takes l.following bs (eqb-true n (length l.following) e))) λ e. replacement_scalar

-- From bytes, whatever numbers they are: no row of the table holds a number above 255
pub from_utf8_characters : (j : ℕ) (bs : List ℕ) → Characters (from_utf8_after j bs)
unfolding from_utf8_after
from_utf8_characters j [] = tt
from_utf8_characters (suc j) (b ∷ bs) = from_utf8_characters j bs
from_utf8_characters zero (b ∷ bs) = (step_scalar b bs, from_utf8_characters (step b bs).after bs)

-- From 16-bit units.

pub lone_scalar : (u : ℕ) → u < 65536 → T (is_scalar (lone u))
lone_scalar u h =
    if_ind (λ c. T (is_scalar c)) (is_high u || is_low u) (λ t. replacement_scalar) λ t.
    let f = neither (is_high u) (is_low u) t in
    below 0xd800 u (scalar_below u) λ k.
    let x = outside 0xd800 0xdbff u f.0 k in
    let y = outside 0xdc00 0xdfff u f.1 (omega arith) in
    scalar_above u (omega arith) (omega arith)

pub pair_scalar : (u v : ℕ) → T (is_high u && is_low v) → T (is_scalar (pair u v))
pair_scalar u v t =
    let e = each (is_high u) (is_low v) t in
    let x = bounds 0xd800 0xdbff u e.0 in
    let y = bounds 0xdc00 0xdfff v e.1 in
    scalar_above (pair u v) (omega arith) (omega arith)

pub from_utf16_characters : (us : List ℕ) → Units us → Characters (from_utf16 us)
unfolding from_utf16
from_utf16_characters [] h = tt
from_utf16_characters (u ∷ []) h = (lone_scalar u h.0, tt)
from_utf16_characters (u ∷ v ∷ us) h =
    if_ind Characters (is_high u && is_low v)
    (λ t. (pair_scalar u v (subst T (sym t) tt), from_utf16_characters us h.1.1))
    λ t. (lone_scalar u h.0, from_utf16_characters (v ∷ us) h.1)
