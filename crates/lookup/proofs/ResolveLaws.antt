-- Working an index out.
-- Assumes nothing.
use mathlib.Core.Path.{◌≡◌, refl, ap, sym, ◌∙◌, subst}
use mathlib.Core.Bool.{Bool, true, false}
use mathlib.Core.List.{List}
use Prim.Native.Nat.{ℕ, zero, suc, ◌+◌, ◌*◌, ◌≤◌, ◌<◌}
use native.Mathlib.Omega.{arith}
use native.Mathlib.Nat.{le_refl}
use borrow.Author.Tests.{eqb-true, eqb-false, ltb-true, ltb-false}
use lib.Dec.{eqb, ltb}
use lib.ListN.{length, take, get_or, set, length-set}
use lib.Seq.{get_or-take, get_or-set_same, get_or-set_other}
use Rattle.foundation.proofs.PresenceLaws.{elem_below}
use Rattle.names.specs.Records.{Record}
use Rattle.names.specs.told.Index.{start_of, end_of, RecordAt, served_from, IndexOf}
use Rattle.lookup.specs.told.Lookups.{PlaceTold, NotesOf}
use Rattle.record_names.specs.told.Named.{NoteTold, RecordWords}
use Rattle.lookup.specs.told.Resolved.{OneTold}
use Rattle.record_names.specs.declared.note.Words.{Words}
use Rattle.foundation.specs.declared.Span.{Span}
use Rattle.std.specs.Prelude.{Some, None}

-- One record.
module _ (bytes before : List ℕ) (k : ℕ) where
  pub one-lost : PlaceTold bytes before k None → OneTold bytes before before k
  one-lost p = record { others = λ j f g. refl; told = λ l r a. absurd (p l a.ordered a.inside) }

  module _ {part : Span} (p : PlaceTold bytes before k (Some part)) (w : Words) (f : RecordWords bytes part.start part.end w) where
    abbrev after : List ℕ
    after = set (set before (3 * k) w.place) (3 * k + 1) w.steps

    place-new : get_or after (3 * k) 0 ≡ w.place
    place-new =
        let l = p.5 in
        get_or-set_other (set before (3 * k) w.place) (3 * k + 1) (3 * k) w.steps 0 (λ z. omega arith)
        ∙ get_or-set_same before (3 * k) w.place 0 (omega arith)

    steps-new : get_or after (3 * k + 1) 0 ≡ w.steps
    steps-new = let l = p.5 in get_or-set_same (set before (3 * k) w.place) (3 * k + 1) w.steps 0 (rw length-set (omega arith))

    pub one_told : OneTold bytes before after k
    one_told = record {
      others = λ j g h.
          get_or-set_other (set before (3 * k) w.place) (3 * k + 1) j w.steps 0 h
          ∙ get_or-set_other before (3 * k) j w.place 0 g;
      told = λ l r a.
          let b : RecordAt bytes part.start part.end r = rw (p.0, p.1) a in
          rw (place-new, steps-new) (f r b);
    }

pub still_lower : (k i : ℕ) → (k ≡ i → ⊥) → k < i + 1 → k < i
still_lower k i n h = go (ltb k i) refl
  where
    go : (b : Bool) → ltb k i ≡ b → k < i
    go true e = ltb-true k i e
    go false e = absurd (n (omega (arith, ltb-false k i e)))

-- All records before i.
pub record Resolving (bytes before notes : List ℕ) (i : ℕ) : Type 0 where
  pub sums : (k : ℕ) → served_from notes k ≡ served_from before k
  pub later : (k : ℕ) → i ≤ k → get_or notes (3 * k) 0 ≡ get_or before (3 * k) 0
  pub told : (k : ℕ) → k < i → 3 * k + 2 < length before → (r : Record)
      → RecordAt bytes (start_of (get_or before (3 * k) 0)) (end_of (get_or before (3 * k) 0)) r
      → NoteTold bytes r (get_or notes (3 * k) 0) (get_or notes (3 * k + 1) 0)

pub resolving_start : (bytes notes : List ℕ) → Resolving bytes notes notes 0
resolving_start bytes notes = record { sums = λ k. refl; later = λ k h. refl; told = λ k h. absurd (omega arith) }

pub resolving_next : (bytes before notes after : List ℕ) (i : ℕ) → length notes ≡ length before → Resolving bytes before notes i → OneTold bytes notes after i → Resolving bytes before after (i + 1)
unfolding served_from
resolving_next bytes before notes after i z s o = record {
  sums = first;
  later = λ k h. o.others (3 * k) (λ e. omega arith) (λ e. omega arith) ∙ s.later k (omega arith);
  told = λ k h l r a. step k (eqb k i) refl h l r a;
}
  where
    first : (k : ℕ) → served_from after k ≡ served_from before k
    first zero = refl
    first (suc k) = o.others (3 * k + 2) (λ e. omega arith) (λ e. omega arith) ∙ s.sums (suc k)

    step : (k : ℕ) (b : Bool) → eqb k i ≡ b → k < i + 1 → 3 * k + 2 < length before → (r : Record)
        → RecordAt bytes (start_of (get_or before (3 * k) 0)) (end_of (get_or before (3 * k) 0)) r
        → NoteTold bytes r (get_or after (3 * k) 0) (get_or after (3 * k + 1) 0)
    step k true e h l r a =
        let q : i ≡ k = sym (eqb-true k i e) in
        subst (λ (j : ℕ). NoteTold bytes r (get_or after (3 * j) 0) (get_or after (3 * j + 1) 0)) q
        (o.told (omega arith) r (rw (s.later i (le_refl i), q) a))
    step k false e h l r a =
        let n = eqb-false k i e in
        rw (o.others (3 * k) (λ z. n (omega arith)) (λ z. omega arith), o.others (3 * k + 1) (λ z. omega arith) (λ z. n (omega arith)))
        (s.told k (still_lower k i n h) l r a)

pub resolving_end : (bytes before notes : List ℕ) (count i : ℕ) → length notes ≡ length before → Resolving bytes before notes i → count ≤ i
    → (records : List Record) → IndexOf bytes before count records → NotesOf bytes notes count records
resolving_end bytes before notes count i z s h records x = record {
  sums = record { many = x.sums.many; long = omega (arith, x.sums.long); are = λ k l. s.sums k ∙ x.sums.are k l };
  each = λ k r e.
      let b = elem_below records k e in
      s.told k (omega (arith, x.sums.many)) (omega (arith, x.sums.many, x.sums.long)) r (x.each k r e);
}

-- The notes of the records, where only what stands after them is changed.
module _ (a b : List ℕ) (n : ℕ) (e : take n a ≡ take n b) where
  same_at : (k : ℕ) → k < n → get_or b k 0 ≡ get_or a k 0
  same_at k h = sym (get_or-take n b k 0 h) ∙ ap (λ (l : List ℕ). get_or l k 0) (sym e) ∙ get_or-take n a k 0 h

  first-kept : (count : ℕ) → 3 * count ≤ n → (k : ℕ) → k ≤ count → served_from b k ≡ served_from a k
  unfolding served_from
  first-kept count h zero l = refl
  first-kept count h (suc k) l = same_at (3 * k + 2) (omega arith)

pub notes-kept : (bytes a b : List ℕ) (count : ℕ) (records : List Record) → take (3 * count) a ≡ take (3 * count) b → 3 * count ≤ length b
    → NotesOf bytes a count records → NotesOf bytes b count records
notes-kept bytes a b count records e l i = record {
  sums = record {
    many = i.sums.many;
    long = l;
    are = λ k h. first-kept a b (3 * count) e count (omega arith) k h ∙ i.sums.are k h;
  };
  each = λ k r q.
      let h = elem_below records k q in
      let s : get_or b (3 * k) 0 ≡ get_or a (3 * k) 0 = same_at a b (3 * count) e (3 * k) (omega (arith, i.sums.many)) in
      let t : get_or b (3 * k + 1) 0 ≡ get_or a (3 * k + 1) 0 = same_at a b (3 * count) e (3 * k + 1) (omega (arith, i.sums.many)) in
      rw (s, t) (i.each k r q);
}
