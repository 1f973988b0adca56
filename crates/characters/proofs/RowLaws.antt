-- The rows of table 3-7 by a first byte, and a character byte by byte.
-- Assumes nothing.
use mathlib.Core.Path.{◌≡◌, refl, ap, sym, ◌∙◌, subst}
use mathlib.Core.Bool.{Bool, true, false, ◌||◌}
use mathlib.Core.List.{List, [], ◌∷◌, Memᴰ}
use mathlib.Core.Option.{Option, none, some}
use Prim.Native.Nat.{ℕ, zero, suc, ◌+◌, ◌-◌, ◌*◌, ◌%◌, ◌^◌, ◌≤◌, ◌<◌}
use native.Mathlib.Nat.{le_trans, pow-le-pow_right, mod-lt, add-zero, pow-suc, one-le-pow, mul-le-mul_right, mul-le-mul_left}
use native.Mathlib.Numerals.{add-one}
use native.Mathlib.Omega.{arith}
use borrow.Author.Tests.{ltb-true}
use lib.Dec.{T, eqb, leb, ltb, ltb→lt, leb→le, eqb-zero-suc, eqb-suc-suc}
use lib.ListN.{length, drop, get_or, replicate, length-replicate, drop_of_length-le}
use lib.Seq.{drop-cons}
use Rattle.std.specs.Prelude.{if◌then◌else◌}
use Rattle.foundation.specs.Choices.{All, IfSome, map_option, if_some}
use Rattle.characters.specs.Characters.{between, Range, ◌to◌, in_range, trail, Lead, ◌then◌, leads, lead_of, run, leading, step, step_by, replacement}
use Rattle.characters.specs.told.CharactersTold.{character_read, LeadByte, lead_byte, lead_byte_of, ranges, go_on, utf8_at}
use Rattle.std.specs.declared.option.Option.TheVariants.{None}
use Rattle.characters.proofs.TestLaws.{below, in_between, bounds, above, under}
use Rattle.foundation.proofs.EveryLaws.{every, every_all, some_map}
use Rattle.characters.proofs.Utf8Laws.{lead_of_lem}
use Rattle.characters.proofs.StepLaws.{alone, lead_found}

-- The k-th row, counted from 0, is what its first bytes say.
abbrev row_at : ℕ → Lead
row_at k = get_or leads k (◌then◌ (◌to◌ 0 0) [])

member_at : {A : Type 0} (ls : List A) (k : ℕ) (d : A) → k < length ls → Memᴰ (get_or ls k d) ls
member_at [] k d h = absurd (omega arith)
member_at (l ∷ ls) zero d h = Memᴰ.head refl
member_at (l ∷ ls) (suc k) d h = Memᴰ.tail (member_at ls k d (omega arith))

pub row_is : (k : ℕ) {b n : ℕ} → k < 9 → n ≡ b → ((row_at k).first.low ≤ b) × (b ≤ (row_at k).first.high)
    → some (lead_byte (leading (length (row_at k).following) n) (row_at k).following) ≡ lead_byte_of b
unfolding lead_byte_of
row_is k {b} {n} h e r =
    rw (e, lead_of_lem b (member_at leads k (◌then◌ (◌to◌ 0 0) []) h) (in_between (row_at k).first.low (row_at k).first.high b r))

-- A byte between two numbers begins no character, if no row's first bytes come between them.
abbrev apart : ℕ → ℕ → Range → Bool
apart low high r = ltb r.high low || ltb high r.low

not_in : (low high b : ℕ) (r : Range) → T (apart low high r) → low ≤ b → b ≤ high → in_range r b ≡ false
not_in low high b r t h k = go (ltb r.high low) refl t
  where
    go : (t : Bool) → ltb r.high low ≡ t → T (t || ltb high r.low) → in_range r b ≡ false
    go true e p = above r.low r.high b (omega (arith, ltb-true))
    go false e p = under r.low r.high b (omega (arith, ltb→lt high r.low p))

lead_none : (low high b : ℕ) (ls : List Lead) → All (λ l. T (apart low high l.first)) ls → low ≤ b → b ≤ high → lead_of b ls ≡ none
unfolding lead_of
lead_none low high b [] t h k = refl
lead_none low high b (l ∷ ls) t h k = rw (not_in low high b l.first t.0 h k) (lead_none low high b ls t.1 h k)

pub stray : (low high : ℕ) {b : ℕ} → T (every (λ l. apart low high l.first) leads) → low ≤ b → b ≤ high → none ≡ lead_byte_of b
unfolding lead_byte_of
stray low high {b} t h k = rw (lead_none low high b leads (every_all (λ l. apart low high l.first) leads t) h k)

-- What a row says leaves the character's number below 2^24.
abbrev small : Lead → Bool
small l = let w = length l.following in leb ((if eqb w 0 then l.first.high + 1 else 2 ^ (6 - w)) * 64 ^ w) (2 ^ 24)

abbrev Small : LeadByte → Type 0
Small r = (r.bits + 1) * 64 ^ length r.following ≤ 2 ^ 24

leading-small : (l : Lead) (b : ℕ) → T (small l) → T (in_range l.first b) → Small (lead_byte (leading (length l.following) b) l.following)
leading-small l b t r =
    let w = length l.following in
    let top : leading w b + 1 ≤ (if eqb w 0 then l.first.high + 1 else 2 ^ (6 - w)) = go (eqb w 0) in
    le_trans (mul-le-mul_right (64 ^ w) top) (leb→le _ (2 ^ 24) t)
  where
    go : (t : Bool) → (if t then b else b % 2 ^ (6 - length l.following)) + 1 ≤ (if t then l.first.high + 1 else 2 ^ (6 - length l.following))
    go true = omega (arith, bounds l.first.low l.first.high b r)
    go false = omega (arith, mod-lt b (one-le-pow (6 - length l.following) 2 (omega arith)))

row_small : (b : ℕ) → IfSome Small (lead_byte_of b)
unfolding lead_byte_of
row_small b =
    some_map (λ l. T (small l) × T (in_range l.first b)) Small (λ l. lead_byte (leading (length l.following) b) l.following) (lead_of b leads)
    (lead_found (λ l. T (small l)) b leads (every_all small leads tt)) λ l p. leading-small l b p.0 p.1

length-ranges : (k low high : ℕ) → length (ranges k low high) ≡ k
length-ranges zero low high = refl
length-ranges (suc k) low high = ap suc (length-replicate k trail)

pub leads-small : (bits k low high b : ℕ) → some (lead_byte bits (ranges k low high)) ≡ lead_byte_of b → (bits + 1) * 64 ^ k ≤ 2 ^ 24
leads-small bits k low high b e =
    let p : Small (lead_byte bits (ranges k low high)) = subst (IfSome Small) (sym e) (row_small b) in
    subst (λ (n : ℕ). (bits + 1) * 64 ^ n ≤ 2 ^ 24) (length-ranges k low high) p

-- The first character of some bytes, by what their first says.
first-row : (at b : ℕ) (bs : List ℕ) {n : ℕ} {rs : List Range} → some (lead_byte n rs) ≡ lead_byte_of b → go_on rs n (at + 1) bs ≡ utf8_at at (b ∷ bs)
unfolding lead_byte_of utf8_at go_on step
first-row at b bs {n} {rs} e = go (lead_of b leads) e
  where
    go : (o : Option Lead) → some (lead_byte n rs) ≡ map_option (λ l. lead_byte (leading (length l.following) b) l.following) o
        → go_on rs n (at + 1) bs ≡ (let s = if_some o alone λ l. step_by l b bs in character_read s.character (at + 1 + s.after))
    go none e = let z : ◌≡◌ {A = ℕ} 0 1 = cc in absurd (omega arith)
    go (some l) e =
        let g : lead_byte n rs ≡ lead_byte (leading (length l.following) b) l.following = cc in
        let p : n ≡ leading (length l.following) b = ap (λ (r : LeadByte). r.bits) g in
        let q : rs ≡ l.following = ap (λ (r : LeadByte). r.following) g in
        rw (p, q)

first_stray : (at b : ℕ) (bs : List ℕ) → none ≡ lead_byte_of b → character_read replacement (at + 1) ≡ utf8_at at (b ∷ bs)
unfolding lead_byte_of utf8_at step
first_stray at b bs e = go (lead_of b leads) e
  where
    go : (o : Option Lead) → none ≡ map_option (λ l. lead_byte (leading (length l.following) b) l.following) o
        → character_read replacement (at + 1) ≡ (let s = if_some o alone λ l. step_by l b bs in character_read s.character (at + 1 + s.after))
    go none e = ap (character_read replacement) (sym (add-zero (at + 1)))
    go (some l) e = let z : ◌≡◌ {A = ℕ} 0 1 = cc in absurd (omega arith)

-- The character at a place of s: none, past the end; one of a byte below 128; by a row of the table; a stray byte.
module _ (s : List ℕ) (at : ℕ) where
  pub at-end : length s ≤ at → None ≡ utf8_at at (drop at s)
  unfolding utf8_at
  at-end h = rw (drop_of_length-le s h)

  module _ (h : at < length s) where
    pub at_row : {n : ℕ} {rs : List Range} → some (lead_byte n rs) ≡ lead_byte_of (get_or s at 0) → go_on rs n (at + 1) (drop (at + 1) s) ≡ utf8_at at (drop at s)
    at_row {n} {rs} e =
        ap (λ (k : ℕ). go_on rs n (at + 1) (drop k s)) (add-one at)
        ∙ first-row at (get_or s at 0) (drop (suc at) s) e
        ∙ ap (utf8_at at) (sym (drop-cons s at 0 h))

    pub at-stray : none ≡ lead_byte_of (get_or s at 0) → character_read replacement (at + 1) ≡ utf8_at at (drop at s)
    at-stray e = rw (drop-cons s at 0 h) (first_stray at (get_or s at 0) (drop (suc at) s) e)

    pub at_one : {b : ℕ} → b ≡ get_or s at 0 → get_or s at 0 < 128 → character_read b (at + 1) ≡ utf8_at at (drop at s)
    unfolding go_on run
    at_one {b} e l =
        ap (character_read b) (sym (add-zero (at + 1))) ∙ at_row (row_is 0 (omega arith) e (omega arith))

ranges-trail : (k : ℕ) → ranges k 0x80 0xbf ≡ replicate k trail
ranges-trail zero = refl
ranges-trail (suc k) = refl

-- Of a character that goes on at the place i of s: nothing is wanted any more; a byte is missing; the byte b is not what may follow; it is.
module _ (s : List ℕ) (i code : ℕ) where
  pub goes-whole : (k low high : ℕ) → k ≤ 0 → go_on (ranges k low high) code i (drop i s) ≡ character_read code i
  unfolding go_on run
  goes-whole zero low high h = ap (character_read code) (add-zero i)
  goes-whole (suc k) low high h = absurd (omega arith)

  pub goes-missing : (k low high : ℕ) → 0 < k → length s ≤ i → go_on (ranges k low high) code i (drop i s) ≡ character_read replacement i
  unfolding go_on run
  goes-missing zero low high l h = absurd (omega arith)
  goes-missing (suc k) low high l h = rw (drop_of_length-le s h, eqb-zero-suc (length (replicate k trail))) (ap (character_read replacement) (add-zero i))

  module _ {b : ℕ} (h : i < length s) (e : b ≡ get_or s i 0) where
    pub goes-wrong : (k low high : ℕ) → 0 < k → between low high b ≡ false → go_on (ranges k low high) code i (drop i s) ≡ character_read replacement i
    unfolding go_on run
    goes-wrong zero low high l p = absurd (omega arith)
    goes-wrong (suc k) low high l p = rw (drop-cons s i 0 h, ← e, p, eqb-zero-suc (length (replicate k trail))) (ap (character_read replacement) (add-zero i))

    pub goes_on_lem : (k less low high : ℕ) → k ≡ suc less → between low high b ≡ true
        → go_on (ranges k low high) code i (drop i s) ≡ go_on (ranges less 0x80 0xbf) (code * 64 + b % 64) (i + 1) (drop (i + 1) s)
    unfolding go_on run
    goes_on_lem k less low high l p =
        let n = run (replicate less trail) (drop (suc i) s) in
        let j : i + suc n ≡ suc i + n = omega arith in
        rw (l, drop-cons s i 0 h, ← e, p, add-one i, ranges-trail less, eqb-suc-suc n (length (replicate less trail)), j)

-- The number stays below 2^24.
pub code_grows : (code b k less : ℕ) → k ≡ suc less → (code + 1) * 64 ^ k ≤ 2 ^ 24 → (code * 64 + b % 64 + 1) * 64 ^ less ≤ 2 ^ 24
code_grows code b k less l h =
    let g : (code + 1) * (64 ^ less * 64) ≤ 2 ^ 24 = rw (l, pow-suc 64 less) at h in
    let m : code * 64 + b % 64 + 1 ≤ (code + 1) * 64 = omega arith in
    omega (arith, mul-le-mul_right (64 ^ less) m)

pub code_bound : (code k : ℕ) → (code + 1) * 64 ^ k ≤ 2 ^ 24 → code < 2 ^ 24
code_bound code k h = omega (arith, mul-le-mul_left (code + 1) (one-le-pow k 64 (omega arith)))

-- so few bytes follow
pub code_few : (code k : ℕ) → (code + 1) * 64 ^ k ≤ 2 ^ 24 → k ≤ 4
code_few code k h = below 5 k (λ l. omega arith) λ l. absurd (omega (arith, pow-le-pow_right {n = 64} (omega arith) l, mul-le-mul_right (64 ^ k) (one_more code)))
  where
    one_more : (n : ℕ) → 1 ≤ n + 1
    one_more n = omega arith
