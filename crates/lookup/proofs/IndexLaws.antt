-- The record that serves an index, found among running sums; the strings of d2 by their ends; where a record stands.
-- Assumes nothing.
use mathlib.Core.Path.{◌≡◌, refl, ap, sym, ◌∙◌, subst}
use mathlib.Core.Bool.{true, false}
use mathlib.Core.List.{List, [], ◌∷◌}
use mathlib.Core.Option.{Option, none, some}
use Prim.Native.Nat.{ℕ, zero, suc, ◌+◌, ◌-◌, ◌*◌, ◌/◌, ◌≤◌, ◌<◌}
use native.Mathlib.Nat.{le_refl, zero-add}
use native.Mathlib.Omega.{arith}
use borrow.Author.Tests.{lt-ltb, le-ltb, leb-true, leb-false}
use Rattle.std.specs.Simd.{first_chunks}
use Rattle.std.specs.List.Sorted.{IsNonDecreasingBy, IsPartitionedBy, IsPartitionPoint}
use Rattle.std.proofs.lemmas.List.Sorted.{IsPartitionedBy-leb}
use lib.Dec.{leb}
use lib.ListN.{length, take, drop, get_or, get_elem?, length-take}
use lib.Seq.{drop-drop, get_or-drop, get_or-take}
use Rattle.foundation.proofs.ChoiceLaws.{and_left, and_right}
use Rattle.characters.specs.told.Places.{part_from}
use Rattle.names.specs.Records.{Record}
use Rattle.names.specs.Names.{record_at, strings_from, ends_fit}
use Rattle.names.specs.told.Index.{sums_from, ranges_of, served_from, Sums, PairPartTold}
use Rattle.lookup.specs.told.Lookups.{PlaceTold}
use Rattle.foundation.specs.declared.Span.{Span}
use Rattle.std.specs.Prelude.{Some, None}
use Rattle.std.specs.declared.option.Option as rust

length-ranges : (rs : List Record) → length (ranges_of rs) ≡ length rs
length-ranges [] = refl
length-ranges (r ∷ rs) = ap suc (length-ranges rs)

-- no sum is below where the sums begin
sums-least : (n : ℕ) (rs : List ℕ) (k : ℕ) → k ≤ length rs → n ≤ get_or (sums_from n rs) k 0
unfolding sums_from
sums-least n [] zero h = le_refl n
sums-least n [] (suc k) h = absurd (omega arith)
sums-least n (r ∷ rs) zero h = le_refl n
sums-least n (r ∷ rs) (suc k) h = omega (arith, sums-least (n + r) rs k (omega arith))

-- and they rise
sums-rise : (n : ℕ) (rs : List ℕ) (i j : ℕ) → i ≤ j → j ≤ length rs → get_or (sums_from n rs) i 0 ≤ get_or (sums_from n rs) j 0
unfolding sums_from
sums-rise n [] zero zero h l = le_refl n
sums-rise n [] zero (suc j) h l = absurd (omega arith)
sums-rise n [] (suc i) j h l = absurd (omega arith)
sums-rise n (r ∷ rs) zero zero h l = le_refl n
sums-rise n (r ∷ rs) zero (suc j) h l = omega (arith, sums-least (n + r) rs j (omega arith))
sums-rise n (r ∷ rs) (suc i) zero h l = absurd (omega arith)
sums-rise n (r ∷ rs) (suc i) (suc j) h l = sums-rise (n + r) rs i j (omega arith) (omega arith)

-- between two sums it is the record there that serves
served-at : (n i : ℕ) (rs : List Record) (k : ℕ) → get_or (sums_from n (ranges_of rs)) k 0 ≤ n + i → n + i < get_or (sums_from n (ranges_of rs)) (suc k) 0
    → k < length rs → record_at i rs ≡ get_elem? rs k
unfolding sums_from record_at
served-at n i [] k l h m = absurd (omega arith)
served-at n i (r ∷ []) zero l h m = rw (lt-ltb i r.range (omega arith))
served-at n i (r ∷ s ∷ rs) zero l h m = rw (lt-ltb i r.range (omega arith))
served-at n i (r ∷ rs) (suc k) l h m =
    let least = sums-least (n + r.range) (ranges_of rs) k (rw length-ranges (omega arith)) in
    let e : n + r.range + (i - r.range) ≡ n + i = omega arith in
    rw (le-ltb i r.range (omega arith)) (served-at (n + r.range) (i - r.range) rs k (rw e l) (rw e h) (omega arith))

-- and past the last sum there is none
served_none : (n i : ℕ) (rs : List Record) → get_or (sums_from n (ranges_of rs)) (length rs) 0 ≤ n + i → record_at i rs ≡ none
unfolding sums_from record_at
served_none n i [] l = refl
served_none n i (r ∷ rs) l =
    let least = sums-least (n + r.range) (ranges_of rs) (length rs) (rw length-ranges (le_refl (length rs))) in
    let e : n + r.range + (i - r.range) ≡ n + i = omega arith in
    rw (le-ltb i r.range (omega arith)) (served_none (n + r.range) (i - r.range) rs (rw e l))

-- where a record's indices begin, as the code reads it
pub first-at : (notes : List ℕ) (k : ℕ) → 0 < k → served_from notes k ≡ get_or notes (3 * k - 1) 0
unfolding served_from
first-at notes zero h = absurd (omega arith)
first-at notes (suc k) h = let e : 3 * k + 2 ≡ 3 * suc k - 1 = omega arith in ap (λ (n : ℕ). get_or notes n 0) e

first-least : (notes : List ℕ) (n : ℕ) → served_from notes 0 ≤ n
unfolding served_from
first-least notes n = omega arith

module _ (notes : List ℕ) (count index : ℕ) (records : List Record) (sums : Sums notes count records) where
  pub no-sums : length notes / 3 < count → record_at index records ≡ none
  no-sums h = absurd (omega (arith, sums.long))

  pub no-records : count ≡ 0 → record_at index records ≡ none
  unfolding record_at
  no-records h = go records (sums.many ∙ h)
    where
      go : (rs : List Record) → length rs ≡ 0 → record_at index rs ≡ none
      go [] e = refl
      go (r ∷ rs) e = absurd (omega arith)

  pub past_all : served_from notes count ≤ index → record_at index records ≡ none
  past_all h =
      served_none 0 index records
      (subst (λ (k : ℕ). get_or (sums_from 0 (ranges_of records)) k 0 ≤ 0 + index) (sym sums.many) (rw (← sums.are count (le_refl count), zero-add) h))

  pub served-by : (k next : ℕ) → k < next → next ≤ count → served_from notes k ≤ index → index < served_from notes next → next - k ≤ 1
      → record_at index records ≡ get_elem? records k
  served-by k next m n l h o =
      let e : next ≡ suc k = omega arith in
      served-at 0 index records k
      (rw (← sums.are k (omega arith), zero-add) l)
      (rw (← sums.are (suc k) (omega arith), zero-add) (rw e at h))
      (omega (arith, sums.many))

-- The words of record k are the chunk k of the notes, and its last word is where the next begins.
pub chunk_word : (notes : List ℕ) (n k : ℕ) (d : List ℕ) → k < n → get_or (get_or (first_chunks 3 n notes) k d) 2 0 ≡ served_from notes (suc k)
unfolding served_from
chunk_word notes zero k d h = absurd (omega arith)
chunk_word notes (suc n) zero d h = get_or-take 3 notes 2 0 (omega arith)
chunk_word notes (suc n) (suc k) d h =
    let e : 3 + (3 * k + 2) ≡ 3 * suc k + 2 = omega arith in
    chunk_word (drop 3 notes) n k d (omega arith) ∙ get_or-drop 3 notes (3 * k + 2) 0 ∙ ap (λ (j : ℕ). get_or notes j 0) e

-- The first record that ends past an index, where the sums rise.
abbrev pub past : List ℕ → ℕ
past words = get_or words 2 0

module _ (notes : List ℕ) (count index : ℕ) (records : List Record) (sums : Sums notes count records) (chunks : List (List ℕ))
    (cut : chunks ≡ first_chunks 3 (length notes / 3) notes) (many : length chunks ≡ length notes / 3) where
  abbrev words : List (List ℕ)
  words = take count chunks

  words-many : length words ≡ count
  words-many = rw length-take (omega (arith, sums.long))

  last : (k : ℕ) (d : List ℕ) → k < count → past (get_or words k d) ≡ served_from notes (suc k)
  last k d h =
      ap past (get_or-take count chunks k d h)
      ∙ ap (λ (cs : List (List ℕ)). past (get_or cs k d)) cut
      ∙ chunk_word notes (length notes / 3) k d (omega (arith, sums.long))

  first-rise : (i j : ℕ) → i ≤ j → j ≤ count → served_from notes i ≤ served_from notes j
  first-rise i j h l =
      rw (sums.are i (omega arith), sums.are j l)
      (sums-rise 0 (ranges_of records) i j h (rw length-ranges (omega (arith, sums.many))))

  ends-rise : IsNonDecreasingBy past words
  ends-rise i j d h l =
      let m = words-many in
      rw (last i d (omega arith), last j d (omega arith)) (first-rise (suc i) (suc j) (omega arith) (omega arith))

  pub ended_first : IsPartitionedBy (λ r. leb (past r) index) words
  ended_first = IsPartitionedBy-leb past words index ends-rise

  module _ (at : ℕ) (t : IsPartitionPoint (λ r. leb (past r) index ≡ true) (λ r. leb (past r) index ≡ false) words at) where
    begins : at ≤ count → (k : ℕ) → k ≤ at → served_from notes k ≤ index
    begins m zero h = first-least notes index
    begins m (suc k) h = rw (← last k [] (omega arith)) (leb-true (past (get_or words k [])) index (t.0 k [] (omega arith) (omega arith)))

    pub none-ends : at ≡ count → record_at index records ≡ none
    none-ends e = past_all notes count index records sums (begins (omega arith) count (omega arith))

    pub first-ends : at < count → record_at index records ≡ get_elem? records at
    first-ends h =
        let m = words-many in
        let u : index < served_from notes (suc at) = rw (← last at [] h) (leb-false (past (get_or words at [])) index (t.1 at [] (le_refl at) (omega arith))) in
        served-by notes count index records sums at (suc at) (omega arith) (omega arith) (begins (omega arith) at (le_refl at)) u (omega arith)

-- Each string of d2 stands between two ends.
d2_none : (at : ℕ) (ends units : List ℕ) (k : ℕ) → length ends ≤ k → get_elem? (strings_from at ends units) k ≡ none
unfolding strings_from
d2_none at [] units k h = refl
d2_none at (e ∷ ends) units zero h = absurd (omega arith)
d2_none at (e ∷ ends) units (suc k) h = d2_none e ends (drop (e - at) units) k (omega arith)

d2-from : (at n : ℕ) (e : ℕ) (ends units : List ℕ) → ends_fit at (e ∷ ends) n ≡ true → drop (e - at) (drop at units) ≡ drop e units
unfolding ends_fit
d2-from at n e ends units h =
    let l : at ≤ e = leb-true at e (and_left (leb at e) (ends_fit e ends n) h) in
    let q : at + (e - at) ≡ e = omega arith in
    drop-drop (e - at) at units ∙ ap (λ (k : ℕ). drop k units) q

d2-first : (at n : ℕ) (ends units : List ℕ) → 0 < length ends
    → get_elem? (strings_from at ends (drop at units)) 0 ≡ some (part_from at (get_or ends 0 0) units)
unfolding strings_from
d2-first at n [] units h = absurd (omega arith)
d2-first at n (e ∷ ends) units h = refl

d2-later : (at n : ℕ) (ends units : List ℕ) (k : ℕ) → ends_fit at ends n ≡ true → suc k < length ends
    → get_elem? (strings_from at ends (drop at units)) (suc k) ≡ some (part_from (get_or ends k 0) (get_or ends (suc k) 0) units)
unfolding strings_from ends_fit
d2-later at n [] units k f h = absurd (omega arith)
d2-later at n (e ∷ ends) units zero f h = rw (d2-from at n e ends units f) (d2-first e n ends units (omega arith))
d2-later at n (e ∷ ends) units (suc k) f h =
    rw (d2-from at n e ends units f) (d2-later e n ends units k (and_right (leb at e) (ends_fit e ends n) f) (omega arith))

module _ (ends units : List ℕ) (f : ends_fit 0 ends (length units) ≡ true) {k i : ℕ} (e : i ≡ k) where
  abbrev string : Option (List ℕ)
  string = get_elem? (strings_from 0 ends units) k

  pub d2-past : length ends ≤ i → string ≡ none
  d2-past h = d2_none 0 ends units k (rw e at h)

  pub d2-begins : i < length ends → i ≡ 0 → {end : ℕ} → end ≡ get_or ends i 0 → string ≡ some (part_from 0 end units)
  d2-begins h z p = rw (p, ← e, z) (d2-first 0 (length units) ends units (omega arith))

  pub d2-goes : i < length ends → (i ≡ 0 → ⊥) → {start end : ℕ} → end ≡ get_or ends i 0 → start ≡ get_or ends (i - 1) 0 → string ≡ some (part_from start end units)
  d2-goes h n p q =
      let z : i ≡ suc (i - 1) = go i n in
      rw (p, q, ← e) (subst (λ (j : ℕ). get_elem? (strings_from 0 ends units) j ≡ some (part_from (get_or ends (i - 1) 0) (get_or ends j 0) units)) (sym z) (d2-later 0 (length units) ends units (i - 1) f (omega arith)))
    where
      go : (i : ℕ) → (i ≡ 0 → ⊥) → i ≡ suc (i - 1)
      go zero n = absurd (n refl)
      go (suc j) n = omega arith

-- Where a record stands, by its first word.
pub place-told : (bytes notes : List ℕ) (k : ℕ) (o : rust.Option Span) → 3 * k + 2 < length notes
    → PairPartTold (get_or notes (3 * k) 0) (length bytes) o → PlaceTold bytes notes k o
place-told bytes notes k (Some p) h t = (t.0, t.1, t.2, t.3, omega arith, h)
place-told bytes notes k None h t = λ _. t
