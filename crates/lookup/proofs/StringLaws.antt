-- Codes and sizes among the notes.
-- Assumes nothing.
use mathlib.Core.Path.{◌≡◌, refl, ap, sym, ◌∙◌, subst}
use mathlib.Core.Bool.{Bool, true, false}
use mathlib.Core.List.{List, []}
use mathlib.Core.Option.{Option, some}
use Prim.Native.Nat.{ℕ, ◌+◌, ◌-◌, ◌*◌, ◌/◌, ◌%◌, ◌≤◌, ◌<◌}
use native.Mathlib.Omega.{arith}
use borrow.Author.Tests.{ltb-true, lt-ltb, le-ltb, eqb-true, eqb-false}
use lib.Dec.{eqb, ltb}
use lib.ListN.{length, take, drop, get_or, get_elem?, set, length-set, length-take, length-drop}
use lib.Seq.{get_or-set_same, get_or-set_other, get_or-drop, get_or-take, take-set-le, take-take}
use Rattle.foundation.specs.Choices.{if_some}
use Rattle.foundation.proofs.ChoiceLaws.{if_ind}
use Rattle.characters.specs.Characters.{utf8, from_utf16}
use Rattle.characters.specs.told.Places.{part_from}
use Rattle.characters.proofs.LengthLaws.{bytes_most, from_utf16-length}
use Rattle.names.specs.Names.{strings_from, ends_fit}
use Rattle.record_names.specs.told.Steps.{extent_of}
use Rattle.lookup.specs.told.Strings.{codes_in, codes_from, sizes_from, Keeps, SizeOf, SizesOf, StringNoted}
use Rattle.foundation.specs.declared.Span.{Span}
use Rattle.std.specs.Prelude.{Some, None, MatchOption}
use Rattle.std.specs.List.{HoldsAt, AllWithin}
use Rattle.std.specs.declared.option.Option as rust
use Rattle.lookup.proofs.ResolveLaws.{still_lower}

-- What stands before a place stays.
pub keeps_same : (n : ℕ) (a : List ℕ) → Keeps n a a
keeps_same n a = record { long = refl; first = refl }

pub keeps-set : {n : ℕ} {a b : List ℕ} (j v : ℕ) → n ≤ j → Keeps n a b → Keeps n a (set b j v)
keeps-set {n} {a} {b} j v h k = record { long = length-set b j v ∙ k.long; first = take-set-le n b j v h ∙ k.first }

pub keeps_then : {n : ℕ} {a b c : List ℕ} → Keeps n a b → Keeps n b c → Keeps n a c
keeps_then k l = record { long = l.long ∙ k.long; first = l.first ∙ k.first }

pub keeps_less : {m n : ℕ} {a b : List ℕ} → m ≤ n → Keeps n a b → Keeps m a b
keeps_less {m} {n} {a} {b} h k = record {
  long = k.long;
  first = sym (take-take m n b h) ∙ ap (take m) k.first ∙ take-take m n a h;
}

pub keeps-sizes : {a b c : List ℕ} → Keeps (sizes_from (length a)) a b → Keeps (sizes_from (length b)) b c → Keeps (sizes_from (length a)) a c
keeps-sizes {a} {b} {c} k l = keeps_then k (subst (λ (n : ℕ). Keeps (sizes_from n) b c) k.long l)

-- Where codes and sizes begin.
codes_few : (words : ℕ) → codes_in words ≤ words
codes_few words = if_ind (λ (n : ℕ). n ≤ words) (ltb 2048 (words / 4)) (λ e. omega (arith, ltb-true 2048 (words / 4) e)) λ e. omega arith

pub codes_all : (words : ℕ) → 2048 < words / 4 → 2048 ≡ codes_in words
codes_all words h = rw (lt-ltb 2048 (words / 4) h)

pub codes_quarter : (words : ℕ) → words / 4 ≤ 2048 → words / 4 ≡ codes_in words
codes_quarter words h = rw (le-ltb 2048 (words / 4) h)

pub codes_fit : (words : ℕ) {codes : ℕ} → codes ≡ codes_in words → codes ≤ words
codes_fit words e = rw e (codes_few words)

pub codes_none : (words : ℕ) {codes : ℕ} → codes ≡ codes_in words → words - codes < 32 → 0 ≡ codes_from words
codes_none words {codes} e h = subst (λ (n : ℕ). 0 ≡ words - n - 32) e (omega arith)

pub codes_begin : (words : ℕ) {codes : ℕ} → codes ≡ codes_in words → words - codes - 32 ≡ codes_from words
codes_begin words e = ap (λ (n : ℕ). words - n - 32) e

pub codes_inside : (words : ℕ) {from : ℕ} → from ≡ codes_from words → from ≤ words
codes_inside words e = rw e (less words (codes_in words))
  where
    less : (a b : ℕ) → a - b - 32 ≤ a
    less a b = omega arith

pub codes_before : (words : ℕ) → codes_from words ≤ sizes_from words
codes_before words = less words (codes_in words)
  where
    less : (a b : ℕ) → a - b - 32 ≤ a - 32
    less a b = omega arith

-- One size among them.
pub size_none : (units ends : List ℕ) (index : ℕ) → SizeOf units ends index 0
size_none units ends index h = absurd (h refl)

pub size-here : (notes : List ℕ) (j index : ℕ) → length notes ≤ j + 32 → j < length notes → {word : ℕ} → word ≡ get_or notes j 0 → word % 65536 ≡ index
    → (units ends : List ℕ) → SizesOf units ends notes → SizeOf units ends index (word / 65536)
size-here notes j index h l {word} e f units ends s = rw (← f, e) (s.each j h l)

-- All of them cleared up to a place.
pub record Cleared (notes : List ℕ) (i : ℕ) : Type 0 where
  pub zero : (j : ℕ) → length notes ≤ j + 32 → j < i → get_or notes j 0 ≡ 0

pub cleared_start : (notes : List ℕ) (i : ℕ) → i ≡ sizes_from (length notes) → Cleared notes i
cleared_start notes i e = record { zero = λ j h l. absurd (omega arith) }

pub cleared_next : (notes : List ℕ) (i : ℕ) → i < length notes → Cleared notes i → Cleared (set notes i 0) (i + 1)
cleared_next notes i l c = record { zero = λ j h m. go j (eqb j i) refl (subst (λ (n : ℕ). n ≤ j + 32) (length-set notes i 0) h) m }
  where
    go : (j : ℕ) (b : Bool) → eqb j i ≡ b → length notes ≤ j + 32 → j < i + 1 → get_or (set notes i 0) j 0 ≡ 0
    go j true e h m = ap (λ (n : ℕ). get_or (set notes i 0) n 0) (eqb-true j i e) ∙ get_or-set_same notes i 0 0 l
    go j false e h m =
        let n = eqb-false j i e in
        get_or-set_other notes i j 0 0 n ∙ c.zero j h (still_lower j i n m)

pub cleared_all : (notes : List ℕ) (i : ℕ) → length notes ≤ i → Cleared notes i → (units ends : List ℕ) → SizesOf units ends notes
cleared_all notes i l c units ends = record { each = λ j h m. subst (λ (w : ℕ). SizeOf units ends (w % 65536) (w / 65536)) (sym (c.zero j h (omega arith))) (size_none units ends 0) }

-- The size of a string is in the word that is found among the sizes, by its index.
module _ (units ends notes : List ℕ) (index word : ℕ) {from : ℕ} (e : from ≡ sizes_from (length notes)) where
  abbrev sizes : List ℕ
  sizes = take (length notes - from) (drop from notes)

  pub size-found : {r : rust.Option ℕ}
      → MatchOption r (AllWithin (λ y. Unit {0}) sizes 0 (length sizes)) (λ w. (w % 65536 ≡ index) × (i : ℕ) × (i < length sizes) × HoldsAt (λ y. y ≡ w) sizes i × AllWithin (λ y. Unit {0}) sizes 0 i)
      → r ≡ Some word → SizesOf units ends notes → SizeOf units ends index (word / 65536)
  size-found {r = None} m q s =
      let z : ◌≡◌ {A = ℕ} 0 1 = cc in
      absurd (omega arith)
  size-found {r = Some w} (p, i, l, g, o) q s =
      let same : w ≡ word = cc in
      let h : i < length notes - from = omega (arith, l, length-take (length notes - from) (drop from notes)) in
      let at : get_or notes (from + i) 0 ≡ w = sym (get_or-drop from notes i 0) ∙ sym (get_or-take (length notes - from) (drop from notes) i 0 h) ∙ g 0 in
      rw (← same, ← p, ← at) (s.each (from + i) (omega arith) (omega arith))

-- No string noted.
pub string-none : (units ends notes : List ℕ) (at : ℕ) → length notes ≤ at + 32 → StringNoted units ends notes notes at
string-none units ends notes at p = record { keeps = keeps_same (sizes_from (length notes)) notes; place = p; sizes = λ f s. s }

-- A string's size at a place among them.
module _ (units ends notes : List ℕ) (at : ℕ) (p : length notes ≤ at + 32)
    (index : ℕ) (x : rust.Option Span) (e : (us : List ℕ) → ends_fit 0 ends (length us) ≡ true → get_elem? (strings_from 0 ends us) index ≡ extent_of us x)
    {part : Span} (g : x ≡ Some part) (l : at < length notes) (i : index ≤ 65535)
    {size : ℕ} (m : size ≡ length (utf8 (from_utf16 (part_from part.start part.end units)))) where
  word-index : (n s : ℕ) → n ≤ 65535 → (n + 65536 * s) % 65536 ≡ n
  word-index n s h = omega arith

  word_size : (n s : ℕ) → n ≤ 65535 → (n + 65536 * s) / 65536 ≡ s
  word_size n s h = omega arith

  one : ends_fit 0 ends (length units) ≡ true → SizeOf units ends index size
  one f n s h =
      let q : some (part_from part.start part.end units) ≡ some s = sym (e units f ∙ ap (extent_of units) g) ∙ h in
      m ∙ ap (λ (o : Option (List ℕ)). length (utf8 (from_utf16 (if_some o [] λ t. t)))) q

  pub string-noted : StringNoted units ends notes (set notes at (index + 65536 * size)) (at + 1)
  string-noted = record {
    keeps = keeps-set at (index + 65536 * size) (omega arith) (keeps_same (sizes_from (length notes)) notes);
    place = omega arith;
    sizes = λ f s. record { each = λ j h k. go f s j (eqb j at) refl (subst (λ (n : ℕ). n ≤ j + 32) (length-set notes at (index + 65536 * size)) h) (subst (λ (n : ℕ). j < n) (length-set notes at (index + 65536 * size)) k) };
  }
    where
      go : ends_fit 0 ends (length units) ≡ true → SizesOf units ends notes → (j : ℕ) (b : Bool) → eqb j at ≡ b → length notes ≤ j + 32 → j < length notes
          → SizeOf units ends (get_or (set notes at (index + 65536 * size)) j 0 % 65536) (get_or (set notes at (index + 65536 * size)) j 0 / 65536)
      go f s j true q h k =
          let w : get_or (set notes at (index + 65536 * size)) j 0 ≡ index + 65536 * size =
          ap (λ (n : ℕ). get_or (set notes at (index + 65536 * size)) n 0) (eqb-true j at q) ∙ get_or-set_same notes at (index + 65536 * size) 0 l in
          rw (w, word-index index size i, word_size index size i) (one f)
      go f s j false q h k = rw (get_or-set_other notes at j (index + 65536 * size) 0 (eqb-false j at q)) (s.each j h k)

-- The size of a part of d2 is counted in 64 bits.
pub part-fits : (units : List ℕ) (start end : ℕ) → length units ≤ 32768 → length (utf8 (from_utf16 (part_from start end units))) < 131073
part-fits units start end h =
    omega (arith, bytes_most (from_utf16 (part_from start end units)), from_utf16-length (part_from start end units), part-most start end units)
  where
    part-most : (start end : ℕ) (s : List ℕ) → length (part_from start end s) ≤ length s
    part-most start end s = omega (arith, length-take (end - start) (drop start s), length-drop start s)

-- All strings.
pub record StringsSized (units ends before notes : List ℕ) (at : ℕ) : Type 0 where
  pub keeps : Keeps (sizes_from (length before)) before notes
  pub place : length notes ≤ at + 32
  pub sizes : ends_fit 0 ends (length units) ≡ true → SizesOf units ends notes

pub strings_next : {units ends before notes after : List ℕ} {at next : ℕ} → StringsSized units ends before notes at → StringNoted units ends notes after next
    → StringsSized units ends before after next
strings_next s n = record {
  keeps = keeps-sizes s.keeps n.keeps;
  place = omega (arith, n.keeps.long, n.place);
  sizes = λ f. n.sizes f (s.sizes f);
}
