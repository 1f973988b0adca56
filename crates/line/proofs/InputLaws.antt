-- Numbers from bytes: those of two pieces add up; units and ends stored one by one.
-- Assumes nothing.
use mathlib.Core.Path.{◌≡◌, refl, sym, ap, ◌∙◌}
use mathlib.Core.Bool.{Bool, true, false}
use mathlib.Core.List.{List, [], ◌∷◌, ◌++◌}
use Prim.Native.Nat.{ℕ, zero, suc, ◌+◌, ◌-◌, ◌*◌, ◌^◌, ◌≤◌, ◌<◌}
use native.Mathlib.Nat.{add-zero, zero-add, sub-zero, pow-zero, pow-suc, mul-le-mul_left, mul-add}
use native.Mathlib.Numerals.{add-one}
use native.Mathlib.Omega.{arith}
use borrow.Author.Tests.{lt-ltb, le-ltb, ltb-true, ltb-false}
use lib.Dec.{ltb}
use lib.ListN.{length, get_or, set, get_or-append}
use lib.Seq.{sets, get_or-append-add}
use Rattle.foundation.proofs.ChoiceLaws.{if_ind}
use Rattle.line.specs.Input.{number_at, numbers_at, d1_count, d2_count, ends_count, counts_of, d1_place, d2_place, ends_place}
use Rattle.line.specs.told.Pieces.{byte_in, number_in_piece, counts_in}

-- past the end there is nothing
pub get_or-far : (bs : List ℕ) (at : ℕ) → length bs ≤ at → get_or bs at 0 ≡ 0
get_or-far [] at h = refl
get_or-far (b ∷ bs) zero h = absurd (omega arith)
get_or-far (b ∷ bs) (suc at) h = get_or-far bs at (omega arith)

pub number_far : (w : ℕ) (bs : List ℕ) (at : ℕ) → length bs ≤ at → number_at w bs at ≡ 0
number_far zero bs at h = refl
number_far (suc w) bs at h = rw (get_or-far bs at h, number_far w bs (at + 1) (omega arith))

-- a byte that stands before the piece, after it, or in it
pub byte-before : (q : List ℕ) (base at : ℕ) → at < base → 0 ≡ byte_in q base at
byte-before q base at h = rw (lt-ltb at base h)

pub byte-there : (q : List ℕ) (base at : ℕ) → base ≤ at → get_or q (at - base) 0 ≡ byte_in q base at
byte-there q base at h = rw (le-ltb at base h)

pub byte_far : (q : List ℕ) (base at : ℕ) → base ≤ at → length q ≤ at - base → 0 ≡ byte_in q base at
byte_far q base at h k = sym (get_or-far q (at - base) k) ∙ byte-there q base at h

-- the byte at a place is in the first piece or in the second
pub byte-append : (p q : List ℕ) (at : ℕ) → get_or (p ++ q) at 0 ≡ get_or p at 0 + byte_in q (length p) at
byte-append p q at = if_ind (λ (n : ℕ). get_or (p ++ q) at 0 ≡ get_or p at 0 + n) (ltb at (length p)) inside outside
  where
    inside : ltb at (length p) ≡ true → get_or (p ++ q) at 0 ≡ get_or p at 0 + 0
    inside t = get_or-append p q 0 at (ltb-true _ _ t) ∙ sym (add-zero _)

    outside : ltb at (length p) ≡ false → get_or (p ++ q) at 0 ≡ get_or p at 0 + get_or q (at - length p) 0
    outside t =
        let h : length p ≤ at = ltb-false _ _ t in
        let e : length p + (at - length p) ≡ at = omega arith in
        let f : get_or (p ++ q) (length p + (at - length p)) 0 ≡ get_or q (at - length p) 0 = get_or-append-add p q (at - length p) 0 in
        ap (λ (n : ℕ). get_or (p ++ q) n 0) (sym e) ∙ f ∙ sym (zero-add _) ∙ ap (λ (n : ℕ). n + get_or q (at - length p) 0) (sym (get_or-far p at h))

-- so the number is what both give of it
pub number_append : (w : ℕ) (p q : List ℕ) (at : ℕ) → number_at w (p ++ q) at ≡ number_at w p at + number_in_piece w q (length p) at
number_append zero p q at = refl
number_append (suc w) p q at =
    sums (get_or p at 0) (byte_in q (length p) at) (number_at w p (at + 1)) (number_in_piece w q (length p) (at + 1)) (byte-append p q at) (number_append w p q (at + 1))
  where
    sums : (a b x y : ℕ) {n m : ℕ} → n ≡ a + b → m ≡ x + y → n + 256 * m ≡ a + 256 * x + (b + 256 * y)
    sums a b x y e f = rw (e, f) (omega arith)

-- one piece that is the whole
pub byte-whole : (bs : List ℕ) (at : ℕ) → byte_in bs 0 at ≡ get_or bs at 0
byte-whole bs at = rw (le-ltb at 0 (omega arith), sub-zero)

pub number-whole : (w : ℕ) (bs : List ℕ) (at : ℕ) → number_in_piece w bs 0 at ≡ number_at w bs at
number-whole zero bs at = refl
number-whole (suc w) bs at = rw (byte-whole bs at, number-whole w bs (at + 1))

pub four_of_two : (q : List ℕ) (base at : ℕ) → number_in_piece 2 q base at + 65536 * number_in_piece 2 q base (at + 2) ≡ number_in_piece 4 q base at
four_of_two q base at =
    let e : at + 1 + 1 ≡ at + 2 = omega arith in
    rw (e) (omega arith)

-- a number that the first piece holds whole
pub number_near : (w : ℕ) (q : List ℕ) (n at : ℕ) → at + w ≤ n → number_in_piece w q n at ≡ 0
number_near zero q n at h = refl
number_near (suc w) q n at h = rw (lt-ltb at n (omega arith), number_near w q n (at + 1) (omega arith))

pub number_settled : (w : ℕ) (p q : List ℕ) (at : ℕ) → at + w ≤ length p → number_at w p at ≡ number_at w (p ++ q) at
number_settled w p q at h =
    sym (number_append w p q at ∙ ap (λ (n : ℕ). number_at w p at + n) (number_near w q (length p) at h) ∙ add-zero _)

module _ (p q : List ℕ) where
  d1-settled : 20 ≤ length p → d1_count p ≡ d1_count (p ++ q)
  unfolding d1_count
  d1-settled h = number_settled 4 p q 16 h

  -- the count of d2 stands where it stood, or past the first piece
  d2-place : number_at 4 p (d2_place (d1_count p)) ≡ number_at 4 p (d2_place (d1_count (p ++ q)))
  d2-place = go (ltb (length p) 20) refl
    where
      go : (t : Bool) → ltb (length p) 20 ≡ t → number_at 4 p (d2_place (d1_count p)) ≡ number_at 4 p (d2_place (d1_count (p ++ q)))
      go true e =
          let h : length p < 20 = ltb-true _ _ e in
          number_far 4 p (d2_place (d1_count p)) (omega arith) ∙ sym (number_far 4 p (d2_place (d1_count (p ++ q))) (omega arith))
      go false e = ap (λ (n : ℕ). number_at 4 p (d2_place n)) (d1-settled (ltb-false _ _ e))

  d2-settled : d2_place (d1_count p) + 4 ≤ length p → d2_count p ≡ d2_count (p ++ q)
  unfolding d2_count
  d2-settled h =
      number_settled 4 p q (d2_place (d1_count p)) h
      ∙ ap (λ (n : ℕ). number_at 4 (p ++ q) (d2_place n)) (d1-settled (omega arith))

  -- the count of the ends alike
  ends-place : number_at 4 p (ends_place (d1_count p) (d2_count p)) ≡ number_at 4 p (ends_place (d1_count (p ++ q)) (d2_count (p ++ q)))
  ends-place = go (ltb (length p) 20) refl (ltb (length p) (24 + 2 * d1_count p)) refl
    where
      Same : Type 0
      Same = number_at 4 p (ends_place (d1_count p) (d2_count p)) ≡ number_at 4 p (ends_place (d1_count (p ++ q)) (d2_count (p ++ q)))

      far : length p ≤ 24 + 2 * d1_count p → length p ≤ 24 + 2 * d1_count (p ++ q) → Same
      far h k =
          number_far 4 p (ends_place (d1_count p) (d2_count p)) (omega arith)
          ∙ sym (number_far 4 p (ends_place (d1_count (p ++ q)) (d2_count (p ++ q))) (omega arith))

      go : (t : Bool) → ltb (length p) 20 ≡ t → (u : Bool) → ltb (length p) (24 + 2 * d1_count p) ≡ u → Same
      go true e u f =
          let h : length p < 20 = ltb-true _ _ e in
          far (omega arith) (omega arith)
      go false e true f =
          let h : length p < 24 + 2 * d1_count p = ltb-true _ _ f in
          let d : d1_count p ≡ d1_count (p ++ q) = d1-settled (ltb-false _ _ e) in
          far (omega arith) (omega arith)
      go false e false f =
          let h : 24 + 2 * d1_count p ≤ length p = ltb-false _ _ f in
          let a : d1_count p ≡ d1_count (p ++ q) = d1-settled (ltb-false _ _ e) in
          let b : d2_count p ≡ d2_count (p ++ q) = d2-settled (omega arith) in
          ap (λ (n : ℕ). number_at 4 p (ends_place n (d2_count p))) a ∙ ap (λ (n : ℕ). number_at 4 p (ends_place (d1_count (p ++ q)) n)) b

  d1-append : d1_count p + number_in_piece 4 q (length p) d1_place ≡ d1_count (p ++ q)
  unfolding d1_count
  d1-append = sym (number_append 4 p q 16)

  d2-append : d2_count p + number_in_piece 4 q (length p) (d2_place (d1_count (p ++ q))) ≡ d2_count (p ++ q)
  unfolding d2_count
  d2-append =
      ap (λ (n : ℕ). n + number_in_piece 4 q (length p) (d2_place (d1_count (p ++ q)))) d2-place
      ∙ sym (number_append 4 p q (d2_place (d1_count (p ++ q))))

  ends-append : ends_count p + number_in_piece 4 q (length p) (ends_place (d1_count (p ++ q)) (d2_count (p ++ q))) ≡ ends_count (p ++ q)
  unfolding ends_count
  ends-append =
      ap (λ (n : ℕ). n + number_in_piece 4 q (length p) (ends_place (d1_count (p ++ q)) (d2_count (p ++ q)))) ends-place
      ∙ sym (number_append 4 p q (ends_place (d1_count (p ++ q)) (d2_count (p ++ q))))

  -- the counts of the bytes so far, and what a piece adds to them
  pub counts-append : counts_in q (length p) (counts_of p) ≡ counts_of (p ++ q)
  unfolding counts_in
  counts-append = rw (d1-append, d2-append, ends-append)

pub counts_none : counts_of [] ≡ record { d1 = 0; d2 = 0; ends = 0 }
unfolding d1_count d2_count ends_count
counts_none = refl

-- numbers are stored one after the other
module _ (w : ℕ) (bs : List ℕ) where
  pub numbers-start : (first : List ℕ) (at m : ℕ) → sets first 0 (numbers_at w bs at m) ≡ sets first 0 (numbers_at w bs at (m - 0))
  numbers-start first at m = rw sub-zero

  pub numbers-step : (first area : List ℕ) (at place i m x : ℕ) → i < m → x ≡ number_at w bs place
      → sets first 0 (numbers_at w bs at m) ≡ sets area i (numbers_at w bs place (m - i))
      → sets first 0 (numbers_at w bs at m) ≡ sets (set area i x) (i + 1) (numbers_at w bs (place + w) (m - (i + 1)))
  numbers-step first area at place i m x h e f =
      let k : m - i ≡ suc (m - (i + 1)) = omega arith in
      f ∙ ap (λ (n : ℕ). sets area i (numbers_at w bs place n)) k ∙ rw (e, add-one)

  -- the place counted from where they begin
  pub numbers-placed : (first area : List ℕ) (at i m x : ℕ) → i < m → x ≡ number_at w bs (at + w * i)
      → sets first 0 (numbers_at w bs at m) ≡ sets area i (numbers_at w bs (at + w * i) (m - i))
      → sets first 0 (numbers_at w bs at m) ≡ sets (set area i x) (i + 1) (numbers_at w bs (at + w * (i + 1)) (m - (i + 1)))
  numbers-placed first area at i m x h e f =
      let p : at + w * i + w ≡ at + w * (i + 1) = rw mul-add (omega arith) in
      numbers-step first area at (at + w * i) i m x h e f
      ∙ ap (λ (n : ℕ). sets (set area i x) (i + 1) (numbers_at w bs n (m - (i + 1)))) p

  pub numbers-end : (first area : List ℕ) (at place i m : ℕ) → i ≤ m → m ≤ i
      → sets first 0 (numbers_at w bs at m) ≡ sets area i (numbers_at w bs place (m - i))
      → (i ≡ m) × (area ≡ sets first 0 (numbers_at w bs at i))
  numbers-end first area at place i m h k e =
      let s : i ≡ m = omega arith in
      let z : m - i ≡ 0 = omega arith in
      (s, sym (ap (λ (n : ℕ). sets first 0 (numbers_at w bs at n)) s ∙ e ∙ ap (λ (n : ℕ). sets area i (numbers_at w bs place n)) z))

-- bytes make numbers below a power
pub number-below : (w : ℕ) (bs : List ℕ) (at : ℕ) → ((i : ℕ) → get_or bs i 0 < 256) → number_at w bs at < 256 ^ w
number-below zero bs at h = rw pow-zero (omega arith)
number-below (suc w) bs at h =
    rw pow-suc (omega (arith, h at, mul-le-mul_left 256 (number-below w bs (at + 1) h)))
