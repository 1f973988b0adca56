-- The index of the name table's records, made by one walk.
-- Assumes nothing.
use mathlib.Core.Path.{◌≡◌, refl, ap, sym, ◌∙◌, subst}
use mathlib.Core.Logic.{◌⊎◌, inl, inr}
use mathlib.Core.List.{List, [], ◌∷◌, ◌++◌, map, append-nil, append_assoc}
use mathlib.Core.Option.{some}
use Prim.Native.Nat.{ℕ, zero, suc, ◌+◌, ◌-◌, ◌*◌, ◌/◌, ◌^◌, ◌≤◌, ◌<◌}
use native.Mathlib.Nat.{zero-add, le_refl}
use native.Mathlib.Numerals.{add-one}
use native.Mathlib.Omega.{arith}
use lib.ListN.{length, drop, set, get_or, get_elem?, length-append, length-set, length-drop}
use lib.Seq.{get_or_at, get_or-set_same, get_or-set_other, take_all}
use Rattle.foundation.specs.Results.{Res, ok, refused, ◌>>=◌, Part, ◌from◌}
use Rattle.fields.specs.Fields.{StringTableTypes-record, StringTableTypes-local_name, Record-range}
use Rattle.wire.specs.Wire.{Message, cut}
use Rattle.wire.specs.Messages.{values, index, bodies_of, cut_all, messages, varints}
use Rattle.wire.specs.told.WireTold.{wire_refused, rest_of, part_between}
use Rattle.messages.specs.told.Asked.{CheckedTold, bodies, index_told, NextBodyTold}
use Rattle.wire.specs.declared.WireError.{WireError}
use Rattle.wire.proofs.WalkLaws.{cut-end, ok_same}
use Rattle.messages.proofs.BodyLaws.{checked_at}
use Rattle.characters.specs.told.Places.{part_from}
use Rattle.names.specs.Records.{Record, record_of, served}
use Rattle.names.specs.Names.{records_of}
use Rattle.names.specs.told.Index.{sums_from, ranges_of, pair_places, start_of, end_of, served_from, Sums, RecordAt, IndexOf, RecordIndex, NotedTold, IndexTold}
use Rattle.std.specs.Prelude.{Option, Some, None, Result, Ok, Err}
use Rattle.names.specs.declared.records.IndexError.{IndexError}
use Rattle.names.specs.declared.records.IndexError.TheVariants.{NoRoom, Wire}
use Rattle.foundation.specs.declared.Span.{Span}

-- One more at the end of a list.
map_snoc : {A B : Type 0} (f : A → B) (l : List A) (a : A) → map f (l ++ (a ∷ [])) ≡ map f l ++ (f a ∷ [])
map_snoc f [] a = refl
map_snoc f (x ∷ l) a = ap (λ (t : List _). f x ∷ t) (map_snoc f l a)

pub elem_snoc : {A : Type 0} (l : List A) (a : A) (k : ℕ) {x : A} → get_elem? (l ++ (a ∷ [])) k ≡ some x
    → ((k < length l) × (get_elem? l k ≡ some x)) ⊎ ((k ≡ length l) × (a ≡ x))
elem_snoc [] a zero e = inr (refl, cc)
elem_snoc [] a (suc k) e = let z : ◌≡◌ {A = ℕ} 0 1 = cc in absurd (omega arith)
elem_snoc (y ∷ l) a zero e = inl (omega arith, e)
elem_snoc (y ∷ l) a (suc k) e = go (elem_snoc l a k e)
  where
    go : {x : _} → ((k < length l) × (get_elem? l k ≡ some x)) ⊎ ((k ≡ length l) × (a ≡ x))
        → ((suc k < suc (length l)) × (get_elem? l k ≡ some x)) ⊎ ((suc k ≡ suc (length l)) × (a ≡ x))
    go (inl (h, q)) = inl (omega arith, q)
    go (inr (h, q)) = inr (ap suc h, q)

sums_snoc : (n : ℕ) (rs : List ℕ) (r : ℕ) → sums_from n (rs ++ (r ∷ [])) ≡ sums_from n rs ++ ((get_or (sums_from n rs) (length rs) 0 + r) ∷ [])
unfolding sums_from
sums_snoc n [] r = refl
sums_snoc n (x ∷ rs) r = ap (λ (t : List ℕ). n ∷ t) (sums_snoc (n + x) rs r)

length-map : {A B : Type 0} (f : A → B) (l : List A) → length (map f l) ≡ length l
length-map f [] = refl
length-map f (x ∷ l) = ap suc (length-map f l)

-- Two places in one number are what they were.
pub pair_start : (start end : ℕ) → start < 2 ^ 32 → start_of (pair_places start end) ≡ start
pair_start start end h = omega arith

pub pair-end : (start end : ℕ) → start < 2 ^ 32 → end_of (pair_places start end) ≡ end
pair-end start end h = omega arith

get_or-front : (xs ys : List ℕ) (k : ℕ) → k < length xs → get_or (xs ++ ys) k 0 ≡ get_or xs k 0
get_or-front [] ys k h = absurd (omega arith)
get_or-front (x ∷ xs) ys zero h = refl
get_or-front (x ∷ xs) ys (suc k) h = get_or-front xs ys k (omega arith)

pub length-sums : (n : ℕ) (rs : List ℕ) → length (sums_from n rs) ≡ suc (length rs)
unfolding sums_from
length-sums n [] = refl
length-sums n (r ∷ rs) = ap suc (length-sums (n + r) rs)

-- The index of no record, and of one more.
pub index_none : (bytes notes : List ℕ) → IndexOf bytes notes 0 []
unfolding sums_from served_from
index_none bytes notes = record {
  sums = record { many = refl; long = omega arith; are = go };
  each = λ k r e. let z : ◌≡◌ {A = ℕ} 0 1 = cc in absurd (omega arith);
}
  where
    go : (k : ℕ) → k ≤ 0 → served_from notes k ≡ get_or (0 ∷ []) k 0
    go zero h = refl
    go (suc k) h = absurd (omega arith)

module _ (notes : List ℕ) (count place next : ℕ) where
  abbrev pub noted_more : List ℕ
  noted_more = set (set notes (3 * count) place) (3 * count + 2) next

  module _ (h : 3 * count + 2 < length notes) where
    first-same : (k : ℕ) → k ≤ count → served_from noted_more k ≡ served_from notes k
    unfolding served_from
    first-same zero l = refl
    first-same (suc k) l =
        get_or-set_other (set notes (3 * count) place) (3 * count + 2) (3 * k + 2) next 0 (λ z. omega arith)
        ∙ get_or-set_other notes (3 * count) (3 * k + 2) place 0 (λ z. omega arith)

    pub first-new : served_from noted_more (count + 1) ≡ next
    unfolding served_from
    first-new = ap (served_from noted_more) (add-one count) ∙ (get_or-set_same (set notes (3 * count) place) (3 * count + 2) next 0 (rw length-set h))

    place_same : (k : ℕ) → k < count → get_or noted_more (3 * k) 0 ≡ get_or notes (3 * k) 0
    place_same k l =
        get_or-set_other (set notes (3 * count) place) (3 * count + 2) (3 * k) next 0 (λ z. omega arith)
        ∙ get_or-set_other notes (3 * count) (3 * k) place 0 (λ z. omega arith)

    place-new : get_or noted_more (3 * count) 0 ≡ place
    place-new =
        get_or-set_other (set notes (3 * count) place) (3 * count + 2) (3 * count) next 0 (λ z. omega arith)
        ∙ get_or-set_same notes (3 * count) place 0 (omega arith)

module _ (bytes notes : List ℕ) (count : ℕ) (records : List Record) (i : IndexOf bytes notes count records) where
  module _ (h : 3 * count + 2 < length notes) where
    sums-more : (place : ℕ) (r : Record) → Sums (noted_more notes count place (served_from notes count + r.range)) (count + 1) (records ++ (r ∷ []))
    sums-more place r =
        let rs = ranges_of records in
        let m = i.sums.many in
        let n : length rs ≡ count = length-map (λ r. r.range) records ∙ m in
        let next = served_from notes count + r.range in
        record {
          many = length-append records (r ∷ []) ∙ ap (λ (k : ℕ). k + 1) m;
          long = rw (length-set, length-set) (omega arith);
          are = λ k l. go k (le-or k count) l n;
        }
      where
        le-or : (k c : ℕ) → (k ≤ c) ⊎ (c < k)
        le-or zero c = inl (omega arith)
        le-or (suc k) zero = inr (omega arith)
        le-or (suc k) (suc c) = step (le-or k c)
          where
            step : (k ≤ c) ⊎ (c < k) → (suc k ≤ suc c) ⊎ (suc c < suc k)
            step (inl a) = inl (omega arith)
            step (inr a) = inr (omega arith)

        sums : sums_from 0 (ranges_of (records ++ (r ∷ []))) ≡ sums_from 0 (ranges_of records) ++ ((get_or (sums_from 0 (ranges_of records)) (length (ranges_of records)) 0 + r.range) ∷ [])
        sums = ap (sums_from 0) (map_snoc (λ r. r.range) records r) ∙ sums_snoc 0 (ranges_of records) r.range

        go : (k : ℕ) → (k ≤ count) ⊎ (count < k) → k ≤ count + 1 → length (ranges_of records) ≡ count
            → served_from (noted_more notes count place (served_from notes count + r.range)) k ≡ get_or (sums_from 0 (ranges_of (records ++ (r ∷ [])))) k 0
        go k (inl a) l n =
            first-same notes count place (served_from notes count + r.range) h k a
            ∙ i.sums.are k a
            ∙ sym (get_or-front (sums_from 0 (ranges_of records)) ((get_or (sums_from 0 (ranges_of records)) (length (ranges_of records)) 0 + r.range) ∷ []) k (omega (arith, length-sums 0 (ranges_of records))))
            ∙ ap (λ (t : List ℕ). get_or t k 0) (sym sums)
        go k (inr a) l n =
            let e : k ≡ count + 1 = omega arith in
            let w : length (sums_from 0 (ranges_of records)) ≡ count + 1 = omega (arith, length-sums 0 (ranges_of records)) in
            let q : get_or (sums_from 0 (ranges_of records)) (length (ranges_of records)) 0 ≡ served_from notes count =
            ap (λ (j : ℕ). get_or (sums_from 0 (ranges_of records)) j 0) n ∙ sym (i.sums.are count (le_refl count)) in
            ap (served_from (noted_more notes count place (served_from notes count + r.range))) e
            ∙ first-new notes count place (served_from notes count + r.range) h
            ∙ ap (λ (j : ℕ). j + r.range) (sym q)
            ∙ sym (get_or_at (sums_from 0 (ranges_of records)) (get_or (sums_from 0 (ranges_of records)) (length (ranges_of records)) 0 + r.range) [] 0 k (w ∙ sym e))
            ∙ ap (λ (t : List ℕ). get_or t k 0) (sym sums)

    each_more : {start end : ℕ} (next : ℕ) (r : Record) → start < 2 ^ 32 → RecordAt bytes start end r → (k : ℕ) (x : Record) → get_elem? (records ++ (r ∷ [])) k ≡ some x
        → RecordAt bytes (start_of (get_or (noted_more notes count (pair_places start end) next) (3 * k) 0)) (end_of (get_or (noted_more notes count (pair_places start end) next) (3 * k) 0)) x
    each_more {start} {end} next r u a k x e = go (elem_snoc records r k e)
      where
        go : ((k < length records) × (get_elem? records k ≡ some x)) ⊎ ((k ≡ length records) × (r ≡ x))
            → RecordAt bytes (start_of (get_or (noted_more notes count (pair_places start end) next) (3 * k) 0)) (end_of (get_or (noted_more notes count (pair_places start end) next) (3 * k) 0)) x
        go (inl (l, q)) =
            let n : k < count = omega (arith, i.sums.many) in
            rw (place_same notes count (pair_places start end) next h k n) (i.each k x q)
        go (inr (l, q)) =
            let z : k ≡ count = l ∙ i.sums.many in
            rw (z, place-new notes count (pair_places start end) next h, pair_start start end u, pair-end start end u, ← q) a

    pub index-more : {start end : ℕ} (r : Record) → start < 2 ^ 32 → RecordAt bytes start end r
        → IndexOf bytes (noted_more notes count (pair_places start end) (served_from notes count + r.range)) (count + 1) (records ++ (r ∷ []))
    index-more {start} {end} r u a = record {
      sums = sums-more (pair_places start end) r;
      each = each_more (served_from notes count + r.range) r u a;
    }

-- Messages cut one by one: those before, and those that are left.
abbrev pub after : List Message → Res (List Message) → Res (List Message)
after before r = r >>= λ ms. ok (before ++ ms)

pub after_none : (r : Res (List Message)) → r ≡ after [] r
after_none (ok ms) = refl
after_none (refused c p) = refl

pub after_one : (before : List Message) (inner : Message) (p : Part) (ps : List Part) → cut p ≡ ok inner → after before (cut_all (p ∷ ps)) ≡ after (before ++ (inner ∷ [])) (cut_all ps)
unfolding cut_all
after_one before inner p ps e = rw e (go (cut_all ps))
  where
    go : (r : Res (List Message)) → after before (r >>= λ ms. ok (inner ∷ ms)) ≡ after (before ++ (inner ∷ [])) r
    go (ok ms) = ap ok (sym (append_assoc before (inner ∷ []) ms))
    go (refused c p) = refl

pub after-refused : (before : List Message) (p : Part) (ps : List Part) (error : WireError) → cut p ≡ wire_refused error → after before (cut_all (p ∷ ps)) ≡ wire_refused error
unfolding cut_all
after-refused before p ps error e = rw e

-- of the name table m what is noted before the place `at`
pub record Noted (bytes : List ℕ) (m : Message) (notes : List ℕ) (total count at : ℕ) : Type 0 where
  pub rest : Message
  pub cuts : cut (rest_of 0 bytes at) ≡ ok rest
  pub before : List Message
  pub whole : messages StringTableTypes-record m ≡ after before (cut_all (bodies StringTableTypes-record rest))
  pub many : length (bodies StringTableTypes-record m) ≡ count + length (bodies StringTableTypes-record rest)
  pub noted : IndexOf bytes notes count (map record_of before)
  pub last : served_from notes count ≡ total

abbrev pub Noting : List ℕ → ℕ → List ℕ → ℕ → ℕ → ℕ → Type 0
Noting bytes start notes total count at = (m : Message) → cut (rest_of 0 bytes start) ≡ ok m → Noted bytes m notes total count at

pub noting_start : (bytes : List ℕ) (at : ℕ) (notes : List ℕ) → Noting bytes at notes 0 0 at
unfolding messages served_from
noting_start bytes at notes m w = record {
  rest = m;
  cuts = w;
  before = [];
  whole = after_none (cut_all (bodies StringTableTypes-record m));
  many = sym (zero-add (length (bodies StringTableTypes-record m)));
  noted = index_none bytes notes;
  last = refl;
}

module _ (bytes : List ℕ) (start : ℕ) (notes : List ℕ) (total count at : ℕ) (i : Noting bytes start notes total count at) where
  -- none is left
  noting-done : (m : Message) (w : cut (rest_of 0 bytes start) ≡ ok m) → bodies StringTableTypes-record (i m w).rest ≡ []
      → NotedTold bytes start m notes (Ok count)
  unfolding cut_all
  noting-done m w e =
      let n = i m w in
      (n.before, n.whole ∙ rw e (ap ok (append-nil n.before)), n.noted)

  pub noting-end : length bytes ≤ at → (m : Message) → cut (rest_of 0 bytes start) ≡ ok m → NotedTold bytes start m notes (Ok count)
  unfolding values bodies_of
  noting-end h m w =
      let n = i m w in
      let e : n.rest ≡ [] = ok_same (sym n.cuts ∙ cut-end 0 bytes at h) in
      noting-done m w (ap (λ (r : Message). bodies StringTableTypes-record r) e)

  module _ {r : Option Span} (t : NextBodyTold 0 bytes StringTableTypes-record at r) where
    pub noting-none : r ≡ None → (m : Message) → cut (rest_of 0 bytes start) ≡ ok m → NotedTold bytes start m notes (Ok count)
    noting-none g m w = let n = i m w in noting-done m w ((subst (NextBodyTold 0 bytes StringTableTypes-record at) g t).is n.rest n.cuts)

    module _ {part : Span} (g : r ≡ Some part) where
      next : NextBodyTold 0 bytes StringTableTypes-record at (Some part)
      next = subst (NextBodyTold 0 bytes StringTableTypes-record at) g t

      pub body-in : (part.start ≤ part.end) × (part.end ≤ length bytes) × (at < part.end)
      body-in = (next.inside.0, next.inside.1, next.later)

      pub noting-refused : {c : Result Unit WireError} → CheckedTold (cut (◌from◌ part.start (part_from part.start part.end bytes))) c → {error : WireError} → c ≡ Err error
          → (m : Message) → cut (rest_of 0 bytes start) ≡ ok m → NotedTold bytes start m notes (Err (Wire error))
      noting-refused {c} k {error} q m w =
          let n = i m w in
          let b = next.is n.rest n.cuts in
          let f : cut (part_between 0 bytes part.start part.end) ≡ wire_refused error =
          subst (CheckedTold (cut (part_between 0 bytes part.start part.end))) q (checked_at bytes part.start part.end c k) in
          n.whole
          ∙ ap (λ (ps : List Part). after n.before (cut_all ps)) b.2
          ∙ after-refused n.before (part_between 0 bytes part.start part.end) (bodies StringTableTypes-record b.0) error f

      pub noting-full : {room : ℕ} → room ≡ length notes / 3 → room ≤ count
          → (m : Message) → cut (rest_of 0 bytes start) ≡ ok m → NotedTold bytes start m notes (Err NoRoom)
      noting-full h l m w room =
          let n = i m w in
          let b = next.is n.rest n.cuts in
          let q : length (bodies StringTableTypes-record n.rest) ≡ suc (length (bodies StringTableTypes-record b.0)) = ap length b.2 in
          omega (arith, room.long, n.many)

      module _ {c : Result Unit WireError} (k : CheckedTold (cut (◌from◌ part.start (part_from part.start part.end bytes))) c) (q : c ≡ Ok tt) where
        inner : (x : Message) × (cut (part_between 0 bytes part.start part.end) ≡ ok x)
        inner = subst (CheckedTold (cut (part_between 0 bytes part.start part.end))) q (checked_at bytes part.start part.end c k)

        here : cut (◌from◌ part.start (part_from part.start part.end bytes)) ≡ ok inner.0
        here = ap (λ (n : ℕ). cut (◌from◌ n (part_from part.start part.end bytes))) (sym (zero-add part.start)) ∙ inner.1

        pub noting-next : 3 * count + 2 < length notes → part.start < 2 ^ 32 → {range : ℕ} (x : Option ℕ)
            → ((m : Message) → cut (◌from◌ part.start (part_from part.start part.end bytes)) ≡ ok m → index Record-range m ≡ index_told x) → range ≡ served (index_told x)
            → {notes' : List ℕ} → notes' ≡ noted_more notes count (pair_places part.start part.end) (total + range) → Noting bytes start notes' (total + range) (count + 1) part.end
        unfolding record_of
        noting-next hs short {range} x d u {notes'} pf m w =
            let n = i m w in
            let b = next.is n.rest n.cuts in
            let y = inner.0 in
            let v : (record_of y).range ≡ range = ap served (d y here) ∙ sym u in
            let sum : served_from notes count + (record_of y).range ≡ total + range = rw (n.last, v) in
            let z : notes' ≡ noted_more notes count (pair_places part.start part.end) (served_from notes count + (record_of y).range) = pf ∙ ap (noted_more notes count (pair_places part.start part.end)) (sym sum) in
            record {
              rest = b.0;
              cuts = b.1;
              before = n.before ++ (y ∷ []);
              whole =
                  n.whole
                  ∙ ap (λ (ps : List Part). after n.before (cut_all ps)) b.2
                  ∙ after_one n.before y (part_between 0 bytes part.start part.end) (bodies StringTableTypes-record b.0) inner.1;
              many = n.many ∙ ap (λ (ps : List Part). count + length ps) b.2 ∙ omega arith;
              noted =
                  let p = index-more bytes notes count (map record_of n.before) n.noted hs (record_of y) short (record {
                    ordered = body-in.0;
                    inside = body-in.1;
                    message = y;
                    cuts = here;
                    is = refl;
                  }) in
                  rw (z, map_snoc record_of n.before y) p;
              last = rw (z, first-new notes count (pair_places part.start part.end) (served_from notes count + (record_of y).range) hs) sum;
            }

-- The local names are looked into after all records are cut.
module _ (bytes : List ℕ) (start : ℕ) (m : Message) (w : cut (rest_of 0 bytes start) ≡ ok m) (notes : List ℕ) (r : RecordIndex) (t : NotedTold bytes start m notes r) where
  from_start : cut (◌from◌ start (part_from start (length bytes) bytes)) ≡ ok m
  from_start =
      let e : part_from start (length bytes) bytes ≡ drop start bytes = take_all (length bytes - start) (drop start bytes) (rw length-drop (le_refl (length bytes - start))) in
      ap (λ (bs : List ℕ). cut (◌from◌ start bs)) e ∙ ap (λ (n : ℕ). cut (◌from◌ n (drop start bytes))) (sym (zero-add start)) ∙ w

  module _ {count : ℕ} (g : r ≡ Ok count) where
    noted : NotedTold bytes start m notes (Ok count)
    noted = subst (NotedTold bytes start m notes) g t

    module _ (c : Result Unit WireError) (k : (m : Message) → cut (◌from◌ start (part_from start (length bytes) bytes)) ≡ ok m → CheckedTold (varints StringTableTypes-local_name m) c) where
      pub index-whole : c ≡ Ok tt → IndexTold bytes start m notes (Ok count)
      unfolding records_of
      index-whole q =
          let l = subst (CheckedTold (varints StringTableTypes-local_name m)) q (k m from_start) in
          (map record_of noted.0, rw (noted.1, l.1), noted.2)

      pub index-locals : {error : WireError} → c ≡ Err error → IndexTold bytes start m notes (Err (Wire error))
      unfolding records_of
      index-locals {error} q =
          let l : varints StringTableTypes-local_name m ≡ wire_refused error = subst (CheckedTold (varints StringTableTypes-local_name m)) q (k m from_start) in
          rw (noted.1, l)

-- Where not all records are noted, that is the answer.
pub index_stopped : (bytes : List ℕ) (start : ℕ) (m : Message) (notes : List ℕ) {r : RecordIndex} {error : IndexError} → r ≡ Err error
    → NotedTold bytes start m notes r → IndexTold bytes start m notes (Err error)
unfolding records_of
index_stopped bytes start m notes {r} {error} e t = go error (subst (NotedTold bytes start m notes) e t)
  where
    go : (error : IndexError) → NotedTold bytes start m notes (Err error) → IndexTold bytes start m notes (Err error)
    go NoRoom t = t
    go (Wire error) t = let l : messages StringTableTypes-record m ≡ wire_refused error = t in rw l
