-- A rule of a table, at every row, by one computed equation of lists; and texts of a table one after the other, each found by its start.
-- Assumes nothing.
use mathlib.Core.Path.{◌≡◌, refl, sym, ap, ◌∙◌, subst}
use mathlib.Core.List.{List, [], ◌∷◌}
use Prim.Native.Nat.{ℕ, zero, suc, ◌+◌, ◌-◌, ◌≤◌, ◌<◌, min}
use native.Mathlib.Numerals.{add-one}
use native.Mathlib.Omega.{arith, min_cases}
use lib.ListN.{length, take, drop, get_or, length-append, length-drop, get_or-eq_default}
use lib.Seq.{length-take-le, take_at, drop-append-add}
use Rattle.foundation.specs.Choices.{concat}
use Rattle.characters.proofs.TestLaws.{below}

-- what f gives of the first n numbers
abbrev pub tabulate : {A : Type 0} → (ℕ → A) → ℕ → List A
tabulate f zero = []
tabulate f (suc n) = f 0 ∷ tabulate (λ k. f (suc k)) n

pub tabulated : {A : Type 0} (f g : ℕ → A) (n : ℕ) → tabulate f n ≡ tabulate g n → (k : ℕ) → k < n → f k ≡ g k
tabulated f g zero e k h = absurd (omega arith)
tabulated f g (suc n) e zero h = cc
tabulated f g (suc n) e (suc k) h =
    let t : tabulate (λ i. f (suc i)) n ≡ tabulate (λ i. g (suc i)) n = cc in
    tabulated (λ i. f (suc i)) (λ i. g (suc i)) n t k (omega arith)

pub tabulate_at : {A : Type 0} (f : ℕ → A) (n k : ℕ) (d : A) → k < n → get_or (tabulate f n) k d ≡ f k
tabulate_at f zero k d h = absurd (omega arith)
tabulate_at f (suc n) zero d h = refl
tabulate_at f (suc n) (suc k) d h = tabulate_at (λ i. f (suc i)) n k d (omega arith)

-- The first n texts one after the other, and where each of them starts and the last ends.
unfoldable pub packed : (ℕ → List ℕ) → ℕ → List ℕ
packed t n = concat (tabulate t n)

unfoldable pub starts : (ℕ → List ℕ) → ℕ → List ℕ
starts t n = tabulate (λ k. length (packed t k)) (n + 1)

-- a text is what stands between its start and the next one's
packed_order : (t : ℕ → List ℕ) (n k : ℕ) → k < n
    → (length (packed t k) ≤ length (packed t (suc k))) × (length (packed t (suc k)) ≤ length (packed t n))
unfolding packed
packed_order t zero k h = absurd (omega arith)
packed_order t (suc n) zero h =
    (omega arith, omega (arith, length-append (t 0) [], length-append (t 0) (concat (tabulate (λ i. t (suc i)) n))))
packed_order t (suc n) (suc k) h =
    let o = packed_order (λ i. t (suc i)) n k (omega arith) in
    let a = length-append (t 0) (concat (tabulate (λ i. t (suc i)) k)) in
    let b = length-append (t 0) (concat (tabulate (λ i. t (suc i)) (suc k))) in
    (omega arith, omega (arith, length-append (t 0) (concat (tabulate (λ i. t (suc i)) n))))

packed-part : (t : ℕ → List ℕ) (n k a b : ℕ) → k < n → a ≡ length (packed t k) → b ≡ length (packed t (suc k))
    → take (b - a) (drop a (packed t n)) ≡ t k
unfolding packed
packed-part t zero k a b h p q = absurd (omega arith)
packed-part t (suc n) zero a b h p q =
    let e : length (t 0) ≡ b - 0 = omega (arith, length-append (t 0) []) in
    rw p (take_at (t 0) (concat (tabulate (λ i. t (suc i)) n)) (b - 0) e)
packed-part t (suc n) (suc k) a b h p q =
    let u : ℕ → List ℕ = λ i. t (suc i) in
    let i = length (packed u k) in
    let j = length (packed u (suc k)) in
    let e : a ≡ length (t 0) + i = p ∙ length-append (t 0) (packed u k) in
    let f : b ≡ length (t 0) + j = q ∙ length-append (t 0) (packed u (suc k)) in
    let g : b - a ≡ j - i = omega arith in
    rw (g, e, drop-append-add (t 0) (packed u n) i) (packed-part u n k i j (omega arith) refl refl)

module _ (t : ℕ → List ℕ) (n k : ℕ) {a b : ℕ} (h : k < n) (p : a ≡ get_or (starts t n) k 0) (q : b ≡ get_or (starts t n) (k + 1) 0) where
  start : a ≡ length (packed t k)
  unfolding starts
  start = p ∙ tabulate_at (λ i. length (packed t i)) (n + 1) k 0 (omega arith)

  end : b ≡ length (packed t (suc k))
  unfolding starts
  end = q ∙ tabulate_at (λ i. length (packed t i)) (n + 1) (k + 1) 0 (omega arith) ∙ ap (λ (i : ℕ). length (packed t i)) (add-one k)

  pub part-ordered : a ≤ b
  part-ordered = let o = packed_order t n k h in omega (arith, start, end)

  pub part-inside : b ≤ length (packed t n)
  part-inside = let o = packed_order t n k h in omega (arith, end)

  pub part-is : take (b - a) (drop a (packed t n)) ≡ t k
  part-is = packed-part t n k a b h start end

  pub part-size : b - a ≡ length (t k)
  part-size =
      let l : b - a ≤ length (drop a (packed t n)) = simp length-drop (omega (arith, part-inside)) in
      sym (length-take-le (b - a) (drop a (packed t n)) l) ∙ ap length part-is

-- The rows from one on, by their number.
pub rows_from : {A : Type 0} (f g : ℕ → A) (a n k : ℕ) → tabulate (λ i. f (a + i)) n ≡ tabulate (λ i. g (a + i)) n → a ≤ k → k < a + n → f k ≡ g k
rows_from f g a n k e l h =
    let i : a + (k - a) ≡ k = omega arith in
    subst (λ (j : ℕ). f j ≡ g j) i (tabulated (λ j. f (a + j)) (λ j. g (a + j)) n e (k - a) (omega arith))

-- A number past the last row means the last.
pub by_number : {A : Type 0} (f g : ℕ → A) (n k : ℕ) → tabulate f (suc n) ≡ tabulate g (suc n) → (n ≤ k → g k ≡ g n) → f (min k n) ≡ g k
by_number f g n k t last =
    min_cases k n (f (min k n) ≡ g k) (λ h e. rw e (tabulated f g (suc n) t k (omega arith))) λ h e.
    rw e (tabulated f g (suc n) t n (omega arith)) ∙ sym (last h)

pub get_or-last : {A : Type 0} (l : List A) (d : A) (n k : ℕ) → length l ≤ suc n → get_or l n d ≡ d → n ≤ k → get_or l k d ≡ get_or l n d
get_or-last l d n k h e i =
    below (suc n) k (λ j. let s : k ≡ n = omega arith in ap (λ (m : ℕ). get_or l m d) s) λ j.
    get_or-eq_default l d (omega arith) ∙ sym e

-- What is shown of a number by a variable in its place, so that `tabulated` can be asked for it.
pub at_variable : {A : Type 0} (k : ℕ) → ((j : ℕ) → k ≡ j → A) → A
at_variable k f = f k refl
