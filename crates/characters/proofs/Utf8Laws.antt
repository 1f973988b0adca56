-- Laws of UTF-8: what is written is well-formed and reads back.
-- Assumes nothing.
use mathlib.Core.Path.{◌≡◌, refl, ap, sym, ◌∙◌, subst}
use mathlib.Core.Bool.{Bool, true, ◌&&◌}
use mathlib.Core.List.{List, [], ◌∷◌, ◌++◌, append_assoc, Memᴰ}
use mathlib.Core.Option.{some}
use Prim.Native.Nat.{ℕ, suc, ◌+◌, ◌*◌, ◌/◌, ◌%◌, ◌≤◌, ◌<◌}
use native.Mathlib.Omega.{arith}
use borrow.Author.Tests.{lt-ltb, le-ltb, eq-eqb}
use lib.Dec.{T}
use lib.ListN.{length, take}
use Rattle.foundation.specs.Choices.{All}
use Rattle.foundation.specs.Texts.{Text}
use Rattle.foundation.proofs.ChoiceLaws.{all_append}
use Rattle.characters.specs.Characters.{is_scalar, between, width, utf8_of, utf8, continuation, Range, ◌to◌, in_range, trail, Lead, ◌then◌, leads, lead_of, run, sixes, leading, step, from_utf8_after, from_utf8}
use Rattle.foundation.proofs.EveryLaws.{each}
use Rattle.characters.proofs.TestLaws.{holds, below, in_between, bounds, above, scalar_bounds}
use Rattle.characters.specs.WellFormed.{Fits, complete, fits, WellFormed, empty, character}
use Rattle.characters.specs.told.CharactersTold.{Characters}

in_range_lem : (r : Range) (b : ℕ) → (r.low ≤ b) × (b ≤ r.high) → T (in_range r b)
in_range_lem r b = in_between r.low r.high b

-- A law of each width's bytes is a law of a character's.
abbrev pub bytes2 : ℕ → List ℕ
bytes2 c = (0xc0 + c / 64) ∷ continuation c ∷ []

abbrev pub bytes3 : ℕ → List ℕ
bytes3 c = (0xe0 + c / 64 / 64) ∷ continuation (c / 64) ∷ continuation c ∷ []

abbrev pub bytes4 : ℕ → List ℕ
bytes4 c = (0xf0 + c / 64 / 64 / 64 % 8) ∷ continuation (c / 64 / 64) ∷ continuation (c / 64) ∷ continuation c ∷ []

pub by_width : (P : ℕ → List ℕ → Type 0) (c : ℕ)
    → (c < 0x80 → P 1 (c ∷ []))
    → (0x80 ≤ c → c < 0x800 → P 2 (bytes2 c))
    → (0x800 ≤ c → c < 0x10000 → P 3 (bytes3 c))
    → (0x10000 ≤ c → P 4 (bytes4 c))
    → P (width c) (utf8_of c)
unfolding width utf8_of
by_width P c one two three four =
    below 0x80 c (λ h. rw (lt-ltb c 0x80 h) (one h)) λ h.
    below 0x800 c (λ k. rw (le-ltb c 0x80 h, lt-ltb c 0x800 k) (two h k)) λ i.
    below 0x10000 c (λ k. rw (le-ltb c 0x80 h, le-ltb c 0x800 i, lt-ltb c 0x10000 k) (three i k)) λ j.
    rw (le-ltb c 0x80 h, le-ltb c 0x800 i, le-ltb c 0x10000 j) (four j)

pub utf8-length : (c : ℕ) → length (utf8_of c) ≡ width c
utf8-length c = by_width (λ n bs. length bs ≡ n) c (λ h. refl) (λ h k. refl) (λ h k. refl) λ h. refl

bytes_of : (c : ℕ) → c ≤ 0x10ffff → All (λ b. b < 256) (utf8_of c)
bytes_of c m = by_width (λ n bs. All (λ b. b < 256) bs) c (λ h. omega arith) (λ h k. omega arith) (λ h k. omega arith) λ h. omega arith

-- The number that the bytes of a row give.
abbrev pub decoded : Lead → ℕ → List ℕ → ℕ
decoded l b bs = sixes (leading (length l.following) b) bs

-- Bytes that fit a row of the table, and give the number c.
pub record InRow (c : ℕ) (bytes : List ℕ) : Type 0 where
  pub row : Lead
  pub first : ℕ
  pub more : List ℕ
  pub are : bytes ≡ first ∷ more
  pub listed : Memᴰ row leads
  pub begins : T (in_range row.first first)
  pub follows : Fits row.following more
  pub back : decoded row first more ≡ c

ruleset member = (Memᴰ.head, Memᴰ.tail)

-- a continuation byte puts back the six bits that it took
six : (n c : ℕ) → n ≡ c / 64 → n * 64 + continuation c % 64 ≡ c
six n c h = omega arith

trails : (n : ℕ) → T (in_range trail (continuation n))
trails n = in_range_lem trail (continuation n) (omega arith)

module _ (c : ℕ) where
  one : c < 0x80 → InRow c (c ∷ [])
  one h = record {
    row = ◌then◌ (◌to◌ 0x00 0x7f) [];
    first = c;
    more = [];
    are = refl;
    listed = search member;
    begins = in_range_lem (◌to◌ 0x00 0x7f) c (omega arith);
    follows = complete;
    back = refl;
  }

  two : 0x80 ≤ c → c < 0x800 → InRow c (bytes2 c)
  two h k = record {
    row = ◌then◌ (◌to◌ 0xc2 0xdf) (trail ∷ []);
    first = 0xc0 + c / 64;
    more = continuation c ∷ [];
    are = refl;
    listed = search member;
    begins = in_range_lem (◌to◌ 0xc2 0xdf) (0xc0 + c / 64) (omega arith);
    follows = fits (trails c) complete;
    back = six _ c (omega arith);
  }

  -- the rows of three bytes and four: their first byte and second are in their ranges
  module _ (f r : Range) where
    abbrev Within : ℕ → ℕ → Type 0
    Within b d = (f.low ≤ b) × (b ≤ f.high) × (r.low ≤ d) × (d ≤ r.high)

    three : Memᴰ (◌then◌ f (r ∷ trail ∷ [])) leads → (c < 0x10000) × Within (0xe0 + c / 64 / 64) (continuation (c / 64))
        → InRow c (bytes3 c)
    three m h = record {
      row = ◌then◌ f (r ∷ trail ∷ []);
      first = 0xe0 + c / 64 / 64;
      more = continuation (c / 64) ∷ continuation c ∷ [];
      are = refl;
      listed = m;
      begins = in_range_lem f (0xe0 + c / 64 / 64) (omega arith);
      follows = fits (in_range_lem r (continuation (c / 64)) (omega arith)) (fits (trails c) complete);
      back = six _ c (six _ (c / 64) (omega arith));
    }

    four : Memᴰ (◌then◌ f (r ∷ trail ∷ trail ∷ [])) leads
        → (c ≤ 0x10ffff) × Within (0xf0 + c / 64 / 64 / 64 % 8) (continuation (c / 64 / 64)) → InRow c (bytes4 c)
    four m h = record {
      row = ◌then◌ f (r ∷ trail ∷ trail ∷ []);
      first = 0xf0 + c / 64 / 64 / 64 % 8;
      more = continuation (c / 64 / 64) ∷ continuation (c / 64) ∷ continuation c ∷ [];
      are = refl;
      listed = m;
      begins = in_range_lem f (0xf0 + c / 64 / 64 / 64 % 8) (omega arith);
      follows = fits (in_range_lem r (continuation (c / 64 / 64)) (omega arith)) (fits (trails (c / 64)) (fits (trails c) complete));
      back = six _ c (six _ (c / 64) (six _ (c / 64 / 64) (omega arith)));
    }

  pub encoded : T (is_scalar c) → InRow c (utf8_of c)
  encoded s =
      by_width (λ n. InRow c) c one two
      (λ h k.
      below 0x1000 c (λ i. three (◌to◌ 0xe0 0xe0) (◌to◌ 0xa0 0xbf) (search member) (omega arith)) λ i.
      below 0xd000 c (λ j. three (◌to◌ 0xe1 0xec) trail (search member) (omega arith)) λ j.
      below 0xd800 c (λ l. three (◌to◌ 0xed 0xed) (◌to◌ 0x80 0x9f) (search member) (omega arith)) λ l.
      let e = (scalar_bounds c s).0 l in
      three (◌to◌ 0xee 0xef) trail (search member depth 9) (omega arith))
      λ h.
      let m = (scalar_bounds c s).1 in
      below 0x40000 c (λ i. four (◌to◌ 0xf0 0xf0) (◌to◌ 0x90 0xbf) (search member depth 9) (omega arith)) λ i.
      below 0x100000 c (λ j. four (◌to◌ 0xf1 0xf3) trail (search member depth 9) (omega arith)) λ j.
      four (◌to◌ 0xf4 0xf4) (◌to◌ 0x80 0x8f) (search member depth 9) (omega arith)

-- The rows of the table ascend, so that a first byte is in one of them at most.
ascending : ℕ → List Lead → Bool
ascending n [] = true
ascending n (l ∷ ls) = between n l.first.high l.first.low && ascending (suc l.first.high) ls

lead_among : {l : Lead} (n : ℕ) {ls : List Lead} (b : ℕ) → Memᴰ l ls → T (ascending n ls) → T (in_range l.first b)
    → (n ≤ b) × (lead_of b ls ≡ some l)
unfolding ascending lead_of
lead_among n b (Memᴰ.head {x} {xs} e) t p =
    let r = x.first in
    let a = each (between n r.high r.low) (ascending (suc r.high) xs) t in
    let i : T (in_range r b) = subst (λ (y : Lead). T (in_range y.first b)) e p in
    (omega (arith, bounds n r.high r.low a.0, bounds r.low r.high b i), rw (holds (in_range r b) i) (ap some (sym e)))
lead_among n b (Memᴰ.tail {x} {xs} m) t p =
    let r = x.first in
    let a = each (between n r.high r.low) (ascending (suc r.high) xs) t in
    let i = lead_among (suc r.high) b m a.1 p in
    (omega (arith, bounds n r.high r.low a.0), rw (above r.low r.high b i.0) i.1)

pub lead_of_lem : {l : Lead} (b : ℕ) → Memᴰ l leads → T (in_range l.first b) → lead_of b leads ≡ some l
unfolding ascending
lead_of_lem b m p = (lead_among 0 b m tt p).1

-- Bytes that fit a row are read whole, whatever comes after them.
module _ (rest : List ℕ) where
  run_fits : {rs : List Range} {bs : List ℕ} → Fits rs bs → run rs (bs ++ rest) ≡ length rs
  unfolding run
  run_fits complete = refl
  run_fits (fits {r} {b} p q) = rw (holds (in_range r b) p) (ap suc (run_fits q))

  take-fits : {rs : List Range} {bs : List ℕ} → Fits rs bs → take (length rs) (bs ++ rest) ≡ bs
  take-fits complete = refl
  take-fits (fits {r} {b} p q) = ap (λ (l : List ℕ). b ∷ l) (take-fits q)

  after-fits : {rs : List Range} {bs : List ℕ} → Fits rs bs → from_utf8_after (length rs) (bs ++ rest) ≡ from_utf8 rest
  unfolding from_utf8_after
  after-fits complete = refl
  after-fits (fits p q) = after-fits q

module _ {l : Lead} (b : ℕ) {bs : List ℕ} (rest : List ℕ) (m : Memᴰ l leads) (p : T (in_range l.first b))
    (f : Fits l.following bs) where
  step_fits : step b (bs ++ rest) ≡ record { character = decoded l b bs; after = length l.following }
  unfolding step
  step_fits = rw (lead_of_lem b m p, run_fits rest f, eq-eqb (length l.following) (length l.following) refl, take-fits rest f)

  pub from-fits : from_utf8 (b ∷ (bs ++ rest)) ≡ decoded l b bs ∷ from_utf8 rest
  unfolding from_utf8_after
  from-fits = rw step_fits (ap (λ (t : Text). decoded l b bs ∷ t) (after-fits rest f))

-- What is written reads back, whatever comes after it; so texts with the same bytes are the same.
pub character_back : (c : ℕ) (rest : List ℕ) → T (is_scalar c) → from_utf8 (utf8_of c ++ rest) ≡ c ∷ from_utf8 rest
character_back c rest s =
    let e = encoded c s in
    ap (λ (bs : List ℕ). from_utf8 (bs ++ rest)) e.are
    ∙ from-fits e.first rest e.listed e.begins e.follows
    ∙ ap (λ (d : ℕ). d ∷ from_utf8 rest) e.back

pub utf8_back : (t : Text) → Characters t → from_utf8 (utf8 t) ≡ t
unfolding utf8 from_utf8_after
utf8_back [] h = refl
utf8_back (c ∷ t) h = character_back c (utf8 t) h.0 ∙ ap (λ (u : Text). c ∷ u) (utf8_back t h.1)

pub utf8_injective : (s t : Text) → Characters s → Characters t → utf8 s ≡ utf8 t → s ≡ t
utf8_injective s t g h e = sym (utf8_back s g) ∙ ap from_utf8 e ∙ utf8_back t h

-- What is written is well-formed, in bytes, and of two texts in a row it is the one's and then the other's.
pub utf8_well_formed : (t : Text) → Characters t → WellFormed (utf8 t)
unfolding utf8
utf8_well_formed [] h = empty
utf8_well_formed (c ∷ t) h =
    let e = encoded c h.0 in
    let w = character e.listed e.begins e.follows (utf8_well_formed t h.1) in
    subst (λ (bs : List ℕ). WellFormed (bs ++ utf8 t)) (sym e.are) w

pub utf8-bytes : (t : Text) → Characters t → All (λ b. b < 256) (utf8 t)
unfolding utf8
utf8-bytes [] h = tt
utf8-bytes (c ∷ t) h = all_append (λ b. b < 256) (utf8_of c) (utf8 t) (bytes_of c (scalar_bounds c h.0).1) (utf8-bytes t h.1)

pub utf8_append : (s t : Text) → utf8 (s ++ t) ≡ utf8 s ++ utf8 t
unfolding utf8
utf8_append [] t = refl
utf8_append (c ∷ s) t = ap (λ (bs : List ℕ). utf8_of c ++ bs) (utf8_append s t) ∙ sym (append_assoc (utf8_of c) (utf8 s) (utf8 t))
