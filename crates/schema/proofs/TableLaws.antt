-- The type table's entries, noted by one walk.
-- Assumes nothing.
use mathlib.Core.Path.{◌≡◌, refl, ap, sym, ◌∙◌, subst}
use mathlib.Core.Logic.{◌⊎◌, inl, inr}
use mathlib.Core.List.{List, [], ◌∷◌, ◌++◌, append-nil}
use mathlib.Core.Option.{some}
use Prim.Native.Nat.{ℕ, suc, ◌+◌, ◌-◌, ◌^◌, ◌≤◌, ◌<◌}
use native.Mathlib.Nat.{zero-add, add_comm}
use native.Mathlib.Omega.{arith}
use lib.ListN.{length, take, drop, set, get_or, get_elem?, length-append, length-set, length-take}
use lib.Seq.{get_or-set_same, get_or-set_other, drop-drop}
use Rattle.std.specs.declared.result.Result.{Result}
use Rattle.std.specs.declared.result.Result.TheVariants.{Ok, Err}
use Rattle.foundation.specs.Results.{ok, Part, ◌from◌}
use Rattle.fields.specs.Fields.{TypeTable-type, TypeTable-first_nullable}
use Rattle.wire.specs.Wire.{Message, cut}
use Rattle.wire.specs.Messages.{index, cut_all, messages}
use Rattle.wire.specs.told.WireTold.{wire_refused, rest_of, part_between}
use Rattle.messages.specs.told.Asked.{CheckedTold, index_told, bodies, NextBodyTold, EmbeddedIs, EmbeddedTold}
use Rattle.wire.specs.declared.WireError.{WireError}
use Rattle.messages.proofs.BodyLaws.{part-is}
use Rattle.characters.specs.told.Places.{part_from}
use Rattle.names.specs.told.Index.{pair_places, start_of, end_of}
use Rattle.names.proofs.NoteLaws.{pair_start, pair-end, elem_snoc, after, after_none, after_one, after-refused}
use Rattle.lookup.proofs.LookupLaws.{part_longer}
use Rattle.schema.specs.Types.{no_table, type_table_in}
use Rattle.schema.specs.told.SchemaTold.{EntryAt, EntriesOf}
use Rattle.schema.specs.told.TableTold.{EntriesTold, TableTold, TypeIndexTold}
use Rattle.names.specs.declared.records.IndexError.{IndexError}
use Rattle.names.specs.declared.records.IndexError.TheVariants.{NoRoom, Wire}
use Rattle.schema.specs.declared.table.TypeIndex.{TypeIndex}
use Rattle.std.specs.declared.option.Option as rust
use Rattle.std.specs.declared.option.Option.TheVariants.{Some, None}
use Rattle.foundation.specs.declared.Span.{Span}
use Rattle.messages.specs.told.Asked.{span}

abbrev pub type_index : ℕ → rust.Option ℕ → TypeIndex
type_index count first = record { count = count; first = first }

-- The places of no entry, of one more, and among more bytes.
pub entries_none : (bytes notes : List ℕ) → EntriesOf bytes notes 0 []
entries_none bytes notes = record {
  many = refl;
  long = omega arith;
  each = λ i m e. let z : ◌≡◌ {A = ℕ} 0 1 = cc in absurd (omega arith);
}

module _ (bytes notes : List ℕ) (count : ℕ) (ms : List Message) (o : EntriesOf bytes notes count ms) where
  entries-more : count < length notes → {a b : ℕ} (m : Message) → a < 2 ^ 32 → EntryAt bytes a b m
      → EntriesOf bytes (set notes count (pair_places a b)) (count + 1) (ms ++ (m ∷ []))
  entries-more h {a} {b} m u at = record {
    many = length-append ms (m ∷ []) ∙ ap (λ (k : ℕ). k + 1) o.many;
    long = rw length-set (omega arith);
    each = λ k x e. go k x (elem_snoc ms m k e);
  }
    where
      go : (k : ℕ) (x : Message) → ((k < length ms) × (get_elem? ms k ≡ some x)) ⊎ ((k ≡ length ms) × (m ≡ x))
          → EntryAt bytes (start_of (get_or (set notes count (pair_places a b)) k 0)) (end_of (get_or (set notes count (pair_places a b)) k 0)) x
      go k x (inl (l, q)) =
          let n : k ≡ count → ⊥ = λ z. omega (arith, o.many) in
          rw (get_or-set_other notes count k (pair_places a b) 0 n) (o.each k x q)
      go k x (inr (l, q)) =
          let z : k ≡ count = l ∙ o.many in
          rw (z, get_or-set_same notes count (pair_places a b) 0 h, pair_start a b u, pair-end a b u, ← q) at

entries_longer : (bytes : List ℕ) (n : ℕ) (notes : List ℕ) (count : ℕ) (ms : List Message) → EntriesOf (take n bytes) notes count ms
    → EntriesOf bytes notes count ms
entries_longer bytes n notes count ms o = record {
  many = o.many;
  long = o.long;
  each = λ k m e.
      let at = o.each k m e in
      let same = part_longer bytes n (start_of (get_or notes k 0)) (end_of (get_or notes k 0)) at.ordered at.inside in
      record {
        ordered = at.ordered;
        inside = omega (arith, at.inside, length-take n bytes);
        cuts = ap (λ (bs : List ℕ). cut (◌from◌ (start_of (get_or notes k 0)) bs)) (sym same) ∙ at.cuts;
      };
}

-- of the table m what is noted before the place `at`
pub record EntriesNoted (bytes : List ℕ) (m : Message) (notes : List ℕ) (count at : ℕ) : Type 0 where
  pub rest : Message
  pub cuts : cut (rest_of 0 bytes at) ≡ ok rest
  pub before : List Message
  pub whole : messages TypeTable-type m ≡ after before (cut_all (bodies TypeTable-type rest))
  pub many : length (bodies TypeTable-type m) ≡ count + length (bodies TypeTable-type rest)
  pub noted : EntriesOf bytes notes count before

abbrev pub EntriesNoting : List ℕ → ℕ → List ℕ → ℕ → ℕ → Type 0
EntriesNoting bytes start notes count at = (m : Message) → cut (rest_of 0 bytes start) ≡ ok m → EntriesNoted bytes m notes count at

pub noting_start : (bytes : List ℕ) (at : ℕ) (notes : List ℕ) → EntriesNoting bytes at notes 0 at
unfolding messages
noting_start bytes at notes m w = record {
  rest = m;
  cuts = w;
  before = [];
  whole = after_none (cut_all (bodies TypeTable-type m));
  many = sym (zero-add (length (bodies TypeTable-type m)));
  noted = entries_none bytes notes;
}

module _ (bytes : List ℕ) (start : ℕ) (notes : List ℕ) (count at : ℕ) (i : EntriesNoting bytes start notes count at) {r : rust.Option Span}
    (t : NextBodyTold 0 bytes TypeTable-type at r) where
  pub noting-none : r ≡ None → (m : Message) → cut (rest_of 0 bytes start) ≡ ok m → EntriesTold bytes m notes (Ok count)
  unfolding cut_all
  noting-none g m w =
      let n = i m w in
      let e : bodies TypeTable-type n.rest ≡ [] = (subst (NextBodyTold 0 bytes TypeTable-type at) g t).is n.rest n.cuts in
      (n.before, n.whole ∙ rw e (ap ok (append-nil n.before)), n.noted)

  module _ {a b : ℕ} (g : r ≡ Some (span a b)) where
    next : NextBodyTold 0 bytes TypeTable-type at (Some (span a b))
    next = subst (NextBodyTold 0 bytes TypeTable-type at) g t

    pub body-in : (a ≤ b) × (b ≤ length bytes) × (at < b)
    body-in = (next.inside.0, next.inside.1, next.later)

    pub noting-refused : (c : Result Unit WireError) → CheckedTold (cut (part_between 0 bytes a b)) c → {error : WireError} → c ≡ Err error
        → (m : Message) → cut (rest_of 0 bytes start) ≡ ok m → EntriesTold bytes m notes (Err (Wire error))
    noting-refused c k {error} q m w =
        let n = i m w in
        let v = next.is n.rest n.cuts in
        let f : cut (part_between 0 bytes a b) ≡ wire_refused error = subst (CheckedTold (cut (part_between 0 bytes a b))) q k in
        n.whole
        ∙ ap (λ (ps : List Part). after n.before (cut_all ps)) v.2
        ∙ after-refused n.before (part_between 0 bytes a b) (bodies TypeTable-type v.0) error f

    -- there is one entry more than were noted
    one_more_lem : (m : Message) (w : cut (rest_of 0 bytes start) ≡ ok m) → count < length (bodies TypeTable-type m)
    one_more_lem m w =
        let n = i m w in
        let v = next.is n.rest n.cuts in
        let q : length (bodies TypeTable-type n.rest) ≡ suc (length (bodies TypeTable-type v.0)) = ap length v.2 in
        omega (arith, n.many)

    pub no_place : length notes ≤ count → (m : Message) → cut (rest_of 0 bytes start) ≡ ok m → EntriesTold bytes m notes (Err NoRoom)
    no_place h m w room = omega (arith, one_more_lem m w, room.long)

    module _ (c : Result Unit WireError) (k : CheckedTold (cut (part_between 0 bytes a b)) c) (q : c ≡ Ok tt) where
      inner : (x : Message) × (cut (part_between 0 bytes a b) ≡ ok x)
      inner = subst (CheckedTold (cut (part_between 0 bytes a b))) q k

      pub noting-next : count < length notes → a < 2 ^ 32 → {notes' : List ℕ} → notes' ≡ set notes count (pair_places a b)
          → EntriesNoting bytes start notes' (count + 1) b
      noting-next hs short {notes'} ps m w =
          let n = i m w in
          let v = next.is n.rest n.cuts in
          let y = inner.0 in
          let here : EntryAt bytes a b y = record {
            ordered = body-in.0;
            inside = body-in.1;
            cuts = ap (λ (n : ℕ). cut (◌from◌ n (part_from a b bytes))) (sym (zero-add a)) ∙ inner.1;
          } in
          record {
            rest = v.0;
            cuts = v.1;
            before = n.before ++ (y ∷ []);
            whole =
                n.whole
                ∙ ap (λ (ps : List Part). after n.before (cut_all ps)) v.2
                ∙ after_one n.before y (part_between 0 bytes a b) (bodies TypeTable-type v.0) inner.1;
            many = n.many ∙ ap (λ (ps : List Part). count + length ps) v.2 ∙ omega arith;
            noted = rw ps (entries-more bytes notes count n.before n.noted hs y short here);
          }

-- the table from a place to another
module _ (payload : List ℕ) (start end : ℕ) (h : start ≤ end) (m : Message) (w : cut (◌from◌ start (part_from start end payload)) ≡ ok m) (notes : List ℕ)
    (r : Result ℕ IndexError) (t : (m : Message) → cut (rest_of 0 (take end payload) start) ≡ ok m → EntriesTold (take end payload) m notes r) where
  from_start : cut (rest_of 0 (take end payload) start) ≡ ok m
  from_start = ap cut (part-is 0 payload start end h) ∙ ap (λ (n : ℕ). cut (◌from◌ n (part_from start end payload))) (zero-add start) ∙ w

  told : {s : Result ℕ IndexError} → r ≡ s → EntriesTold (take end payload) m notes s
  told g = subst (EntriesTold (take end payload) m notes) g (t m from_start)

  pub table-noted : {count : ℕ} (first : rust.Option ℕ) → r ≡ Ok count → index TypeTable-first_nullable m ≡ index_told first
      → TableTold payload m notes (Ok (type_index count first))
  table-noted {count} first g f = let n = told g in (n.0, n.1, entries_longer payload end notes count n.0 n.2, f)

  -- what is refused of the entries is refused of the table
  pub table-unnoted : {why : IndexError} → r ≡ Err why → TableTold payload m notes (Err why)
  table-unnoted {why = NoRoom} g = told g
  table-unnoted {why = Wire error} g = told g

-- A part of what stands from a place on is a part of the whole.
part-rest : (l : List ℕ) (at a b : ℕ) → part_from a b (drop at l) ≡ part_from (at + a) (at + b) l
part-rest l at a b =
    let e : b - a ≡ at + b - (at + a) = omega arith in
    ap (take (b - a)) (drop-drop a at l) ∙ ap (λ (k : ℕ). take k (drop (at + a) l)) e

-- the table in a field
module _ (payload : List ℕ) (at n : ℕ) (notes : List ℕ) where
  module _ (m : Message) (w : cut (◌from◌ at (drop at payload)) ≡ ok m) {x : Result (rust.Option Span) WireError}
      (t : EmbeddedTold at (drop at payload) n x) where
    found : {y : Result (rust.Option Span) WireError} → x ≡ y → EmbeddedIs at (drop at payload) n m y
    found g = subst (EmbeddedIs at (drop at payload) n m) g (t.is m w)

    pub index_none : x ≡ Ok None → TypeIndexTold payload at n m notes (Ok (type_index 0 None))
    unfolding type_table_in
    index_none g = (no_table, (λ l. rw (found g)), entries_none payload notes, refl)

    pub index-refused : {error : WireError} → x ≡ Err error → TypeIndexTold payload at n m notes (Err (Wire error))
    unfolding type_table_in
    index-refused g l = rw (found g)

    module _ {a b : ℕ} (g : x ≡ Ok (Some (span a b))) where
      table-cuts : cut (◌from◌ (at + a) (part_from (at + a) (at + b) payload)) ≡ ok (found g).0
      table-cuts = ap (λ (bs : List ℕ). cut (◌from◌ (at + a) bs)) (sym (part-rest payload at a b)) ∙ (found g).1

      index-told : (r : Result TypeIndex IndexError) → TableTold payload (found g).0 notes r → TypeIndexTold payload at n m notes r
      unfolding type_table_in
      index-told (Ok x) (ms, e, o, f) =
          (record { types = ms; first_nullable = index TypeTable-first_nullable (found g).0 }, (λ l. rw ((found g).2, e)), o, f)
      index-told (Err NoRoom) h = λ room. h (room.entries (found g).0 (found g).2)
      index-told (Err (Wire error)) h = λ l. rw ((found g).2, h)

      pub index-inline : (r : Result TypeIndex IndexError) → {p : Span} → (p.start ≡ a + at) × (p.end ≡ b + at)
          → ((m : Message) → cut (◌from◌ p.start (part_from p.start p.end payload)) ≡ ok m → TableTold payload m notes r)
          → TypeIndexTold payload at n m notes r
      index-inline r {p} (e, f) h =
          index-told r (h (found g).0 (rw (e ∙ add_comm a at, f ∙ add_comm b at) table-cuts))
