-- Bytes cut where one character ends and the next begins: the text of the whole is that of the parts.
-- Assumes nothing.
use mathlib.Core.Path.{◌≡◌, refl, ap, sym, ◌∙◌, subst}
use mathlib.Core.Bool.{Bool, true, false}
use mathlib.Core.List.{List, [], ◌∷◌, ◌++◌}
use mathlib.Core.Option.{Option, none, some}
use Prim.Native.Nat.{ℕ, zero, suc, ◌+◌, ◌-◌, ◌≤◌, ◌<◌}
use native.Mathlib.Nat.{le_refl, add-zero, zero-add, suc-add, add_assoc}
use native.Mathlib.Omega.{arith}
use borrow.Author.Tests.{eqb-true, ltb-false, ne_eqb, lt-ltb, le-ltb}
use lib.Dec.{eqb, ltb}
use lib.ListN.{length, take, drop}
use lib.Seq.{take-take, drop-drop}
use Rattle.std.specs.Prelude.{if◌then◌else◌}
use Rattle.foundation.specs.Choices.{if_some, map_option, IfSome}
use Rattle.foundation.specs.Texts.{Text}
use Rattle.foundation.proofs.ChoiceLaws.{if_ind, drop-take}
use Rattle.characters.specs.Characters.{width, utf8, Range, in_range, Lead, leads, lead_of, run, step, step_by, from_utf8_after, from_utf8}
use Rattle.characters.specs.told.Places.{place_after, place_of}
use Rattle.characters.specs.Splits.{Halves, halves, split_at, substring_of}
use Rattle.characters.specs.told.CharactersTold.{character_read, utf8_at}
use Rattle.std.specs.declared.option.Option.TheVariants.{None}
use Rattle.characters.proofs.TestLaws.{below}
use Rattle.foundation.proofs.EveryLaws.{map_same, map_twice, some_map}
use Rattle.characters.proofs.StepLaws.{alone, Joins, split_joins}
use Rattle.characters.proofs.LengthLaws.{step_most, width_most, bytes_cons}
use Rattle.characters.proofs.CharacterLaws.{read-parts, after_drops, from_first, utf8-inside, utf8-none}

-- A step doesn't change when the bytes after its end are cut off.
run-cut : (rs : List Range) (bs : List ℕ) (k : ℕ) → run rs bs ≤ k → run rs (take k bs) ≡ run rs bs
unfolding run
run-cut [] bs k h = refl
run-cut (r ∷ rs) [] zero h = refl
run-cut (r ∷ rs) [] (suc k) h = refl
run-cut (r ∷ rs) (b ∷ bs) zero h = omega arith
run-cut (r ∷ rs) (b ∷ bs) (suc k) h = go (in_range r b) h (run-cut rs bs k)
  where
    go : (t : Bool) → (if t then suc (run rs bs) else 0) ≤ suc k → (run rs bs ≤ k → run rs (take k bs) ≡ run rs bs)
        → (if t then suc (run rs (take k bs)) else 0) ≡ (if t then suc (run rs bs) else 0)
    go true h e = ap suc (e (omega arith))
    go false h e = refl

step_by-cut : (l : Lead) (b : ℕ) (bs : List ℕ) (k : ℕ) → run l.following bs ≤ k → step_by l b (take k bs) ≡ step_by l b bs
step_by-cut l b bs k h = let n = run l.following bs in rw (run-cut l.following bs k h, take-take n k bs h)

pub step_cut : (b : ℕ) (bs : List ℕ) (k : ℕ) → (step b bs).after ≤ k → step b (take k bs) ≡ step b bs
unfolding step
step_cut b bs k = go (lead_of b leads)
  where
    go : (o : Option Lead) → (if_some o alone (λ l. step_by l b bs)).after ≤ k
        → if_some o alone (λ l. step_by l b (take k bs)) ≡ if_some o alone (λ l. step_by l b bs)
    go none h = refl
    go (some l) h = step_by-cut l b bs k h

-- A law of no bytes, and of some if it is one of those after their first character, is a law of all.
module _ (P : List ℕ → Type 0) (end : P []) (more : (b : ℕ) (bs : List ℕ) → P (drop (step b bs).after bs) → P (b ∷ bs)) where
  from_place : (bs : List ℕ) (j : ℕ) → P (drop j bs)
  from_place [] zero = end
  from_place [] (suc j) = end
  from_place (b ∷ bs) zero = more b bs (from_place bs (step b bs).after)
  from_place (b ∷ bs) (suc j) = from_place bs j

  pub step-by-step : (bs : List ℕ) → P bs
  step-by-step bs = from_place bs 0

-- A place by the first character.
place_after_lem : (n j : ℕ) (bs : List ℕ) → j ≤ length bs → place_after j n bs ≡ map_option (λ k. j + k) (place_of n (drop j bs))
unfolding place_after
place_after_lem n zero bs h = go (place_of n bs)
  where
    go : (o : Option ℕ) → o ≡ map_option (λ k. 0 + k) o
    go none = refl
    go (some k) = ap some (sym (zero-add k))
place_after_lem n (suc j) [] h = absurd (omega arith)
place_after_lem n (suc j) (b ∷ bs) h =
    let o = place_of n (drop j bs) in
    ap (map_option suc) (place_after_lem n j bs (omega arith))
    ∙ map_twice (λ k. j + k) suc o
    ∙ map_same (λ k. suc (j + k)) (λ k. suc j + k) (λ k. sym (suc-add j k)) o

module _ (n b : ℕ) (bs : List ℕ) where
  abbrev code : ℕ
  code = (step b bs).character

  abbrev taken : ℕ
  taken = suc (step b bs).after

  abbrev later : Option ℕ
  later = map_option (λ k. taken + k) (place_of (n - width code) (drop (step b bs).after bs))

  place-first : place_of n (b ∷ bs) ≡ (if eqb n 0 then some 0 else if ltb n (width code) then none else later)
  unfolding place_after
  place-first = rw (place_after_lem (n - width code) taken (b ∷ bs) (omega (arith, (step_most b bs).0)))

  place-less : 0 < n → n < width code → place_of n (b ∷ bs) ≡ none
  place-less h l = place-first ∙ rw (ne_eqb n 0 (λ z. omega arith), lt-ltb n (width code) l)

  place-more : width code ≤ n → place_of n (b ∷ bs) ≡ later
  place-more l = place-first ∙ rw (ne_eqb n 0 (λ z. omega (arith, width_most code)), le-ltb n (width code) l)

-- Where the text is cut the bytes are.
abbrev halves_at : List ℕ → ℕ → Halves
halves_at bs a = halves (from_utf8 (take a bs)) (from_utf8 (drop a bs))

halves-first : (b : ℕ) (bs : List ℕ) (k : ℕ) → let j = (step b bs).after in
    halves_at (b ∷ bs) (suc j + k) ≡ halves ((step b bs).character ∷ from_utf8 (take k (drop j bs))) (from_utf8 (drop k (drop j bs)))
halves-first b bs k =
    let j = (step b bs).after in
    rw (suc-add, from_first b (take (j + k) bs), step_cut b bs (j + k) (omega arith), drop-take j k bs, drop-drop k j bs)

two_tests : {A B : Type 0} (f : A → B) (s t : Bool) (a : A) (o : Option B) (p : Option A) → o ≡ map_option f p
    → (if s then some (f a) else if t then none else o) ≡ map_option f (if s then some a else if t then none else p)
two_tests f true t a o p e = refl
two_tests f false true a o p e = refl
two_tests f false false a o p e = e

abbrev Cut : List ℕ → Type 0
Cut bs = (n : ℕ) → split_at n (from_utf8 bs) ≡ map_option (halves_at bs) (place_of n bs)

cut-end : Cut []
unfolding split_at from_utf8_after place_after
cut-end n = two_tests (halves_at []) (eqb n 0) true 0 none none refl

cut-first : (b : ℕ) (bs : List ℕ) → Cut (drop (step b bs).after bs) → Cut (b ∷ bs)
unfolding split_at from_utf8_after
cut-first b bs e n =
    let c = (step b bs).character in
    let j = (step b bs).after in
    let p = place_of (n - width c) (drop j bs) in
    let add : Halves → Halves = λ h. halves (c ∷ h.before) h.after in
    let later : map_option add (split_at (n - width c) (from_utf8_after j bs)) ≡ map_option (halves_at (b ∷ bs)) (map_option (λ k. suc j + k) p) =
    ap (λ (t : Text). map_option add (split_at (n - width c) t)) (after_drops j bs)
    ∙ ap (map_option add) (e (n - width c))
    ∙ map_twice (halves_at (drop j bs)) add p
    ∙ map_same (λ k. add (halves_at (drop j bs) k)) (λ k. halves_at (b ∷ bs) (suc j + k)) (λ k. sym (halves-first b bs k)) p
    ∙ sym (map_twice (λ k. suc j + k) (halves_at (b ∷ bs)) p) in
    two_tests (halves_at (b ∷ bs)) (eqb n 0) (ltb n (width c)) 0 _ _ later
    ∙ ap (map_option (halves_at (b ∷ bs))) (sym (place-first n b bs))

pub split_source : (bs : List ℕ) (n : ℕ) → split_at n (from_utf8 bs) ≡ map_option (halves_at bs) (place_of n bs)
split_source = step-by-step Cut cut-end cut-first

-- Where the text of the bytes from the place `at` of s on has n bytes.
abbrev pub place_from : List ℕ → ℕ → ℕ → Option ℕ
place_from s at n = map_option (λ k. at + k) (place_of n (drop at s))

-- from a place, and from there on
further : (s : List ℕ) (a b n : ℕ) → map_option (λ k. a + k) (place_from (drop a s) b n) ≡ place_from s (a + b) n
further s a b n =
    let p = place_of n (drop (a + b) s) in
    rw drop-drop (map_twice (λ k. b + k) (λ k. a + k) p ∙ map_same (λ k. a + (b + k)) (λ k. a + b + k) (λ k. sym (add_assoc a b k)) p)

pub from_start : (s : List ℕ) (n : ℕ) → place_from s 0 n ≡ place_of n s
from_start s n = sym (place_after_lem n 0 s (omega arith))

zero-place : (bs : List ℕ) → place_of 0 bs ≡ some 0
unfolding place_after
zero-place [] = refl
zero-place (b ∷ bs) = refl

place_nil : (n : ℕ) → 0 < n → place_of n [] ≡ none
unfolding place_after
place_nil n h = rw (ne_eqb n 0 (λ z. omega arith))

-- by the first character of the bytes bs, which go on at `at`
place_read : (at n : ℕ) (bs : List ℕ) {code next : ℕ} → utf8_at at bs ≡ character_read code next
    → (0 < n → n < width code → place_of n bs ≡ none)
    × (width code ≤ n → place_of n bs ≡ map_option (λ k. next - at + k) (place_of (n - width code) (drop (next - at) bs)))
unfolding utf8_at
place_read at n [] e = let z : ◌≡◌ {A = ℕ} 0 1 = cc in absurd (omega arith)
place_read at n (b ∷ bs) {code} {next} e =
    let j = (step b bs).after in
    let p : (step b bs).character ≡ code = (read-parts e).0 in
    let q : at + 1 + j ≡ next = (read-parts e).1 in
    let r : next - at ≡ suc j = omega arith in
    rw (← p, r) (place-less n b bs, place-more n b bs)

module _ (s : List ℕ) (at : ℕ) where
  pub from-here : (n : ℕ) → n ≤ 0 → place_from s at n ≡ some at
  from-here zero h = rw (zero-place (drop at s)) (ap some (add-zero at))
  from-here (suc n) h = absurd (omega arith)

  pub from_end : (n : ℕ) → 0 < n → utf8_at at (drop at s) ≡ None → place_from s at n ≡ none
  from_end n h e = rw (utf8-none s at e, place_nil n h)

  module _ (n : ℕ) {code next w : ℕ} (e : utf8_at at (drop at s) ≡ character_read code next) (i : w ≡ width code) where
    pub from-inside : 0 < n → n < w → place_from s at n ≡ none
    from-inside h l = rw ((place_read at n (drop at s) e).0 h (omega arith))

    pub from_next : w ≤ n → place_from s at n ≡ place_from s next (n - w)
    from_next l =
        let r : at + (next - at) ≡ next = omega (arith, utf8-inside s at e) in
        rw i
        (ap (map_option λ k. at + k) ((place_read at n (drop at s) e).1 (omega arith))
        ∙ further s at (next - at) (n - width code)
        ∙ ap (λ (k : ℕ). place_from s k (n - width code)) r)

-- What holds of the places in bytes: none is past their end, and one further on is found from there.
within-after : (j n : ℕ) (bs : List ℕ) → IfSome (λ a. a ≤ length bs) (place_after j n bs)
unfolding place_after
within-after j n [] = if_ind (IfSome λ a. a ≤ 0) (eqb n 0) (λ e. le_refl 0) λ e. tt
within-after (suc j) n (b ∷ bs) =
    some_map (λ a. a ≤ length bs) (λ a. a ≤ suc (length bs)) suc (place_after j n bs) (within-after j n bs) λ a h. omega arith
within-after zero n (b ∷ bs) =
    let P : Option ℕ → Type 0 = IfSome λ a. a ≤ suc (length bs) in
    let c = (step b bs).character in
    let p = place_after (step b bs).after (n - width c) bs in
    if_ind P (eqb n 0) (λ e. omega arith) λ e.
    if_ind P (ltb n (width c)) (λ e. tt) λ e.
    some_map (λ a. a ≤ length bs) (λ a. a ≤ suc (length bs)) suc p (within-after (step b bs).after (n - width c) bs) λ a h. omega arith

pub place-within : (bs : List ℕ) (n : ℕ) → IfSome (λ a. a ≤ length bs) (place_of n bs)
place-within bs n = within-after 0 n bs

abbrev Adds : List ℕ → Type 0
Adds bs = (n m a : ℕ) → place_of n bs ≡ some a → place_of (n + m) bs ≡ place_from bs a m

adds_zero : (bs : List ℕ) (m a : ℕ) → place_of 0 bs ≡ some a → place_of (0 + m) bs ≡ place_from bs a m
adds_zero bs m a e =
    let z : 0 ≡ a = let g : some 0 ≡ some a = sym (zero-place bs) ∙ e in cc in
    rw (← z, zero-add) (sym (from_start bs m))

nothing_is : {P : Type 0} {a : ℕ} → none ≡ some a → P
nothing_is e = let z : ◌≡◌ {A = ℕ} 0 1 = cc in absurd (omega arith)

adds_end : Adds []
adds_end zero m a e = adds_zero [] m a e
adds_end (suc n) m a e = nothing_is (sym (place_nil (suc n) (omega arith)) ∙ e)

adds_first : (b : ℕ) (bs : List ℕ) → Adds (drop (step b bs).after bs) → Adds (b ∷ bs)
adds_first b bs h zero m a e = adds_zero (b ∷ bs) m a e
adds_first b bs h (suc n) m a e =
    let c = (step b bs).character in
    let j = (step b bs).after in
    below (width c) (suc n) (λ l. nothing_is (sym (place-less (suc n) b bs (omega arith) l) ∙ e)) λ l.
    go l (place_of (suc n - width c) (drop j bs)) refl (sym (place-more (suc n) b bs l) ∙ e)
  where
    w : ℕ
    w = width (step b bs).character

    go : w ≤ suc n → (o : Option ℕ) → place_of (suc n - w) (drop (step b bs).after bs) ≡ o
        → map_option (λ k. suc (step b bs).after + k) o ≡ some a → place_of (suc n + m) (b ∷ bs) ≡ place_from (b ∷ bs) a m
    go l none e f = nothing_is f
    go l (some k) e f =
        let j = (step b bs).after in
        let p : suc j + k ≡ a = cc in
        let q : suc n + m - w ≡ suc n - w + m = omega arith in
        place-more (suc n + m) b bs (omega arith)
        ∙ ap (λ (i : ℕ). map_option (λ k. suc j + k) (place_of i (drop j bs))) q
        ∙ ap (map_option λ k. suc j + k) (h (suc n - w) m k e)
        ∙ further (b ∷ bs) (suc j) k m
        ∙ ap (λ (i : ℕ). place_from (b ∷ bs) i m) p

pub place_add : (bs : List ℕ) (n m a : ℕ) → place_of n bs ≡ some a → place_of (n + m) bs ≡ place_from bs a m
place_add = step-by-step Adds adds_end adds_first

-- At a place the text of the bytes is cut into those of its two parts, and the one before has as many bytes as the place says.
split_bytes : (n : ℕ) (t : Text) → IfSome (λ h. length (utf8 h.before) ≡ n) (split_at n t)
unfolding split_at utf8
split_bytes n [] = if_ind (IfSome λ h. length (utf8 h.before) ≡ n) (eqb n 0) (λ e. sym (eqb-true n 0 e)) λ e. tt
split_bytes n (c ∷ t) =
    let P : ℕ → Halves → Type 0 = λ k h. length (utf8 h.before) ≡ k in
    if_ind (IfSome (P n)) (eqb n 0) (λ e. sym (eqb-true n 0 e)) λ e.
    if_ind (IfSome (P n)) (ltb n (width c)) (λ e. tt) λ e.
    some_map (P (n - width c)) (P n) _ (split_at (n - width c) t) (split_bytes (n - width c) t) λ h p.
    bytes_cons c h.before ∙ omega (arith, ltb-false)

module _ (bs : List ℕ) (n : ℕ) {a : ℕ} (e : place_of n bs ≡ some a) where
  at_place : (P : Halves → Type 0) → IfSome P (split_at n (from_utf8 bs)) → P (halves_at bs a)
  at_place P h = subst (IfSome P) (split_source bs n ∙ ap (map_option (halves_at bs)) e) h

  pub place-text : from_utf8 bs ≡ from_utf8 (take a bs) ++ from_utf8 (drop a bs)
  place-text = sym (at_place (Joins (from_utf8 bs)) (split_joins n (from_utf8 bs)))

-- A place that is reached by steps from the start.
abbrev pub Boundary : List ℕ → ℕ → Type 0
Boundary s at = (n : ℕ) × (place_of n s ≡ some at)

module _ (s : List ℕ) where
  pub boundary_start : Boundary s 0
  boundary_start = (0, zero-place s)

  module _ {at : ℕ} (b : Boundary s at) where
    pub boundary-text : from_utf8 s ≡ from_utf8 (take at s) ++ from_utf8 (drop at s)
    boundary-text = place-text s b.0 b.1

    pub boundary-next : {code next : ℕ} → utf8_at at (drop at s) ≡ character_read code next → Boundary s next
    boundary-next {code} {next} e = (
      b.0 + width code,
      place_add s b.0 (width code) at b.1
          ∙ from_next s at (width code) e refl (le_refl (width code))
          ∙ from-here s next (width code - width code) (omega arith),
    )

-- A substring by byte places of the text of some bytes is the text of a part of them.
pub substring-source : (start stop : ℕ) (bs : List ℕ) →
    substring_of start stop (from_utf8 bs)
    ≡ (if ltb stop start then none else if_some (place_of start bs) none λ a. map_option (λ k. from_utf8 (take k (drop a bs))) (place_of (stop - start) (drop a bs)))
unfolding substring_of
substring-source start stop bs = ap (λ (x : Option Text). if ltb stop start then none else x) (rw (split_source bs start) (go (place_of start bs)))
  where
    n : ℕ
    n = stop - start

    go : (o : Option ℕ) → if_some (map_option (halves_at bs) o) none (λ h. map_option (λ m. m.before) (split_at n h.after))
        ≡ if_some o none λ a. map_option (λ k. from_utf8 (take k (drop a bs))) (place_of n (drop a bs))
    go none = refl
    go (some a) =
        let rest = drop a bs in
        ap (map_option λ m. m.before) (split_source rest n) ∙ map_twice (halves_at rest) (λ m. m.before) (place_of n rest)
