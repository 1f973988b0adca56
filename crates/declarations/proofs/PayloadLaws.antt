-- The decoded bytes opened: name table, records, body, type table.
-- Assumes nothing.
use mathlib.Core.Path.{◌≡◌, refl, ap, sym, subst, ◌∙◌}
use mathlib.Core.Bool.{Bool, true, false}
use mathlib.Core.List.{List, ◌++◌, append-nil}
use mathlib.Core.Option.{Option}
use Prim.Native.Nat.{ℕ, ◌+◌, ◌-◌, ◌*◌, ◌≤◌, ◌<◌}
use native.Mathlib.Nat.{zero-add}
use native.Mathlib.Omega.{arith}
use borrow.Rule.Slice.PartMut.{put_mid, mid_of, post_of, Post-is, take_put, same_len_mid}
use lib.Dec.{eqb}
use lib.ListN.{length, take, drop, get_or, length-append, length-take, length-drop}
use lib.Seq.{length-take-le, drop-append_seam, drop-length, get_or-take, get_or-drop, take-take, take-append_seam}
use Rattle.foundation.specs.Results as Results
use Rattle.foundation.specs.Results.{Res, ok, ◌from◌}
use Rattle.foundation.specs.Texts.{Text}
use Rattle.fields.specs.Fields.{StringTableTypes-record, TypeTable-type, Class-type_table}
use Rattle.wire.specs.Wire.{Message, cut, read_delimited}
use Rattle.wire.specs.told.WireTold.{wire_refused, rest_of, part_between}
use Rattle.messages.specs.told.Asked.{bodies}
use Rattle.wire.specs.declared.WireError.{WireError}
use Rattle.messages.specs.told.Reader.{SplitTold}
use Rattle.messages.specs.declared.reader.Parts.{Parts}
use Rattle.messages.proofs.BodyLaws.{part-is}
use Rattle.names.specs.Records.{Record}
use Rattle.names.specs.Names.{Names, ends_fit}
use Rattle.names.specs.told.Index.{IndexOf, RecordIndex, IndexTold}
use Rattle.names.specs.declared.records.IndexError.{IndexError}
use Rattle.names.specs.declared.records.IndexError.TheVariants as index
use Rattle.lookup.specs.told.Lookups.{NotesOf}
use Rattle.lookup.specs.told.Strings.{codes_from, sizes_from, Keeps, SizesOf}
use Rattle.lookup.proofs.LookupLaws.{index_longer}
use Rattle.lookup.proofs.ResolveLaws.{notes-kept}
use Rattle.lookup.proofs.StringLaws.{codes_inside, codes_before, keeps_less}
use Rattle.foundation.proofs.PresenceLaws.{elem_below}
use Rattle.schema.specs.Reading.{TypeTable, scope, allowance}
use Rattle.schema.specs.Types.{type_table_in}
use Rattle.schema.specs.Members.{after_table, body_in}
use Rattle.schema.specs.told.TableTold.{TypeIndexTold}
use Rattle.schema.specs.declared.table.TypeIndex.{TypeIndex}
use Rattle.declarations.specs.Payload.{body_of, payload}
use Rattle.declarations.specs.told.PayloadTold.{body_from, BodyAt, BodyOpened, NotedOpened, OpenedAt, OpenedTold, LentTold}
use Rattle.schema.specs.told.SchemaTold.{EntriesOf, entries_in}
use Rattle.schema.proofs.AlikeLaws.{deepest_itself}
use Rattle.foundation.specs.declared.Tables.{Tables}
use Rattle.declarations.specs.declared.payload.Opened.{Opened}
use Rattle.std.proofs.Common.{Result, Ok, Err}
use Rattle.declarations.proofs.RoomLaws.{bodies_few, inner_few, records-many}

-- A body by its type table, of a class and of a package.
module _ (names : Names) (m : Message) (l : ℕ) where
  table-then : (class : Bool) {table : TypeTable} → type_table_in Class-type_table m l ≡ ok (table, l)
      → body_in class names m l ≡ after_table class (scope names table) m l
  unfolding body_in
  table-then true e = rw e
  table-then false e = rw e

  table-refuses : (class : Bool) (error : WireError) → type_table_in Class-type_table m l ≡ wire_refused error → body_in class names m l ≡ wire_refused error
  unfolding body_in
  table-refuses true error e = rw e
  table-refuses false error e = rw e

pub body-after : (kind : ℕ) (names : Names) (m : Message) (l : ℕ) {table : TypeTable} → type_table_in Class-type_table m l ≡ ok (table, l)
    → body_of kind names m l ≡ after_table (eqb kind 1) (scope names table) m l
body-after kind names m l = table-then names m l (eqb kind 1)

-- What neither gives its notes nor is refused had no room.
pub table-left : (r : Result TypeIndex IndexError) → ((t : TypeIndex) → r ≡ Ok t → ⊥) → ((error : WireError) → r ≡ Err (index.Wire error) → ⊥)
    → r ≡ Err index.NoRoom
table-left (Ok t) k l = absurd (k t refl)
table-left (Err index.NoRoom) k l = refl
table-left (Err (index.Wire error)) k l = absurd (l error refl)

pub records-left : (r : RecordIndex) → ((count : ℕ) → r ≡ Ok count → ⊥) → ((error : WireError) → r ≡ Err (index.Wire error) → ⊥)
    → r ≡ Err index.NoRoom
records-left (Ok count) k l = absurd (k count refl)
records-left (Err index.NoRoom) k l = refl
records-left (Err (index.Wire error)) k l = absurd (l error refl)

-- The body, cut, and its type table noted.
module _ (bytes : List ℕ) (at count : ℕ) (entries : List ℕ) where
  pub body_refused : (error : WireError) → cut (◌from◌ at (drop at bytes)) ≡ wire_refused error → BodyOpened bytes at count entries (Err (index.Wire error))
  body_refused error refuses kind names = rw refuses

  module _ (m : Message) (cuts : cut (◌from◌ at (drop at bytes)) ≡ ok m) where
    pub body_unnoted : (error : IndexError) → ((t : Message) → cut (◌from◌ at (drop at bytes)) ≡ ok t → TypeIndexTold bytes at Class-type_table t entries (Err error))
        → BodyOpened bytes at count entries (Err error)
    body_unnoted (index.Wire error) h = λ kind names. rw cuts (table-refuses names m allowance (eqb kind 1) error (h m cuts allowance))
    body_unnoted index.NoRoom h = λ room.
        h m cuts (record {
          inside = room.inside;
          short = room.short;
          entries = λ table f.
              let few = inner_few Class-type_table TypeTable-type (◌from◌ at (drop at bytes)) cuts f in
              let l = length-drop at bytes in
              record { long = omega (arith, room.long, room.inside) };
        })

    pub body_open : (x : TypeIndex) → ((t : Message) → cut (◌from◌ at (drop at bytes)) ≡ ok t → TypeIndexTold bytes at Class-type_table t entries (Ok x))
        → BodyOpened bytes at count entries (Ok (record { at = at; tables = record { records = count; types = x.count; first_nullable = x.first } }))
    body_open x h =
        let w = h m cuts in
        (refl, refl, record { body = m; cuts = cuts; table = w.0; reads = w.1; noted = w.2; nullable = w.3 })

-- What was lent from a place on, put back.
put_back : (l part : List ℕ) (n : ℕ) → n ≤ length l → drop n (put_mid n (length l - n) l part) ≡ part
put_back l part n h =
    ap (λ (k : ℕ). drop k (put_mid n (length l - n) l part)) (sym (length-take-le n l h))
    ∙ drop-append_seam (take n l) (part ++ post_of n (length l - n) l)
    ∙ ap (λ (t : List ℕ). part ++ t) (Post-is n (length l) l h ∙ drop-length l)
    ∙ append-nil part

-- The notes of the body's type table stand after those of the records, which they leave as they are.
pub noted_then : (bytes : List ℕ) (rest count : ℕ) (before worked : List ℕ)
    → ((rs : List Record) → length bytes < 65536 → IndexOf bytes before count rs → NotesOf bytes worked count rs) → 3 * count ≤ length worked
    → (part : List ℕ) → length part ≡ length (mid_of (3 * count) (length worked - 3 * count) worked) → (r : Result Opened IndexError) → BodyOpened bytes rest count part r
    → NotedOpened bytes rest count before (put_mid (3 * count) (length worked - 3 * count) worked part) r
noted_then bytes rest count before worked u h part same r t =
    let n = 3 * count in record {
      names = λ rs l i.
          notes-kept bytes worked (put_mid n (length worked - n) worked part) count rs (sym (take_put n (length worked - n) worked part h))
          (let z = same_len_mid n (length worked - n) worked part same in omega arith) (u rs l i);
      body = subst (λ (x : List ℕ). BodyOpened bytes rest count x r) (sym (put_back worked part n h)) t;
    }

-- The name table, cut, and then the body.
module _ (bytes : List ℕ) (parts : Parts) (d : SplitTold bytes (read_delimited (◌from◌ 0 bytes)) (Ok parts)) where
  abbrev start : ℕ
  start = parts.table.start

  abbrev end : ℕ
  end = parts.table.end

  abbrev rest : ℕ
  rest = parts.rest

  -- what is cut of the name table, at its place in the payload
  abbrev Cut : Res Message → Type 0
  Cut r = cut (◌from◌ start (take (end - start) (drop start bytes))) ≡ r

  placed : {r : Res Message} → Cut r → cut (part_between 0 bytes start end) ≡ r
  placed e = ap (λ (n : ℕ). cut (◌from◌ n (take (end - start) (drop start bytes)))) (zero-add start) ∙ e

  pub table-refused : (error : WireError) → Cut (wire_refused error) → (notes : List ℕ) → OpenedTold bytes notes (Err (index.Wire error))
  unfolding payload
  table-refused error e notes kind d2 = rw (d.0, placed e)

  module _ (m : Message) (e : Cut (ok m)) (before : List ℕ) where
    stands : cut (rest_of 0 (take end bytes) start) ≡ ok m
    stands = ap cut (part-is 0 bytes start end d.2) ∙ placed e

    few : 2 * length (bodies StringTableTypes-record m) ≤ end - start
    few =
        let l = length-take end bytes in
        let n = length-drop start (take end bytes) in
        omega (arith, bodies_few StringTableTypes-record (rest_of 0 (take end bytes) start) stands)

    pub records_unnoted : (error : IndexError)
        → ((t : Message) → cut (rest_of 0 (take end bytes) start) ≡ ok t → IndexTold (take end bytes) start t before (Err error)) → OpenedTold bytes before (Err error)
    unfolding payload
    records_unnoted (index.Wire error) h = λ kind d2. rw (d.0, placed e, h m stands)
    records_unnoted index.NoRoom h = λ room.
        let l = length-take end bytes in
        h m stands (record {
          inside = omega (arith, d.2, d.3, d.4);
          short = omega (arith, room.short);
          long = omega (arith, room.long, few, d.2, d.3, d.4);
        })

    module _ (count : ℕ) (h : (t : Message) → cut (rest_of 0 (take end bytes) start) ≡ ok t → IndexTold (take end bytes) start t before (Ok count)) where
      indexed : IndexTold (take end bytes) start m before (Ok count)
      indexed = h m stands

      opens : (kind : ℕ) (d2 : ℕ → Res (Option Text)) → payload kind d2 bytes ≡ body_from kind (record { records = indexed.0; d2 = d2 }) bytes rest
      unfolding payload
      opens kind d2 =
          rw (d.0, placed e, indexed.1)
          (ap (λ (n : ℕ). Results.◌>>=◌ (cut (◌from◌ n (drop rest bytes))) λ body. body_of kind (record { records = indexed.0; d2 = d2 }) body allowance) (zero-add rest))

      pub records-long : 3 * count ≤ length before
      records-long = indexed.2.sums.long

      count-few : 2 * count ≤ end - start
      count-few = omega (arith, few, indexed.2.sums.many, records-many m indexed.1)

      pub opened-then : (after : List ℕ) → length after ≡ length before → (y : Result Opened IndexError) → NotedOpened bytes rest count before after y
          → length bytes < 65536 → OpenedTold bytes after y
      opened-then after l (Ok o) w s =
          let p = w.body.0 in
          let q = w.body.1 in
          record {
            inside = rw p d.4;
            is =
                subst (λ (n : ℕ). BodyAt bytes n (drop (3 * o.tables.records) after) o.tables) (sym p)
                (subst (λ (n : ℕ). BodyAt bytes rest (drop (3 * n) after) o.tables) (sym q) w.body.2);
            records = indexed.0;
            names = rw q (w.names indexed.0 s (index_longer bytes end before count indexed.0 indexed.2));
            opens = λ kind d2. opens kind d2 ∙ rw p;
          }
      opened-then after l (Err (index.Wire error)) w s = λ kind d2. opens kind d2 ∙ w.body kind (record { records = indexed.0; d2 = d2 })
      opened-then after l (Err index.NoRoom) w s = λ room.
          let n = length-drop (3 * count) after in
          let c = count-few in
          w.body (record { inside = d.4; short = omega (arith, room.short); long = omega (arith, room.long, d.2, d.3, d.4) })

pub payload-refused : (bytes notes : List ℕ) (error : WireError) → read_delimited (◌from◌ 0 bytes) ≡ wire_refused error → OpenedTold bytes notes (Err (index.Wire error))
unfolding payload
payload-refused bytes notes error e kind d2 = rw e

pub payload_too_long : (bytes notes : List ℕ) → 65535 < length bytes → OpenedTold bytes notes (Err index.NoRoom)
payload_too_long bytes notes h room = omega (arith, room.short)

-- What is lent besides stands after the notes of both tables.
elem_kept : (a b : List ℕ) (k : ℕ) → take (length a) b ≡ a → k < length a → get_or b k 0 ≡ get_or a k 0
elem_kept a b k e h = sym (get_or-take (length a) b k 0 h) ∙ ap (λ (l : List ℕ). get_or l k 0) e

entries_longer : (bytes a b : List ℕ) (n count : ℕ) (types : List Message) → take (length a) b ≡ a → EntriesOf bytes (drop n a) count types → EntriesOf bytes (drop n b) count types
entries_longer bytes a b n count types e t = record {
  many = t.many;
  long = let l = ap length e in omega (arith, t.long, length-drop n a, length-drop n b, length-take (length a) b);
  each = λ i m q.
      let h = elem_below types i q in
      let l = length-drop n a in
      let s : get_or (drop n b) i 0 ≡ get_or (drop n a) i 0 = get_or-drop n b i 0 ∙ elem_kept a b (n + i) e (omega (arith, t.many, t.long)) ∙ sym (get_or-drop n a i 0) in
      rw s (t.each i m q);
}

opened_longer : (bytes a b : List ℕ) (at : ℕ) (tables : Tables) → take (length a) b ≡ a → OpenedAt bytes a at tables → OpenedAt bytes b at tables
opened_longer bytes a b at tables e o = record {
  inside = o.inside;
  is = record {
    body = o.is.body;
    cuts = o.is.cuts;
    table = o.is.table;
    reads = o.is.reads;
    noted = entries_longer bytes a b (3 * tables.records) tables.types o.is.table.types e o.is.noted;
    nullable = o.is.nullable;
  };
  records = o.records;
  names =
      let n = 3 * tables.records in
      let h = o.names.sums.long in
      let l = ap length e in
      notes-kept bytes a b tables.records o.records (ap (take n) (sym e) ∙ take-take n (length a) b h) (omega (arith, length-take (length a) b)) o.names;
  opens = o.opens;
}

-- The tables' part opened, then codes and sizes noted after it.
module _ (bytes d2 ends notes : List ℕ) (limit : ℕ) (c : limit ≡ codes_from (length notes)) (part : List ℕ)
    (l : length part ≡ length (take limit notes)) where
  -- with the part opened
  abbrev all : List ℕ
  all = part ++ drop limit notes

  limit-inside : limit ≤ length notes
  limit-inside = codes_inside (length notes) c

  part_length : length part ≡ limit
  part_length = let i = limit-inside in l ∙ rw length-take (omega arith)

  all-length : length all ≡ length notes
  all-length = let i = limit-inside in omega (arith, length-append part (drop limit notes), length-drop limit notes, part_length)

  pub lent-body : (o : Opened) → OpenedTold bytes part (Ok o) → (coded sized : List ℕ)
      → Keeps (codes_from (length all)) all coded → Keeps (sizes_from (length coded)) coded sized
      → (ends_fit 0 ends (length d2) ≡ true → SizesOf d2 ends sized) → LentTold bytes d2 ends sized (Ok o)
  lent-body o t coded sized k m s = record {
    opened = opened_longer bytes part sized o.at o.tables kept t;
    sizes = s;
    deepest = deepest_itself bytes (entries_in o.tables sized) o.tables.types;
  }
    where
      codes : Keeps limit all coded
      codes = subst (λ (n : ℕ). Keeps n all coded) (ap codes_from all-length ∙ sym c) k

      sizes-after : limit ≤ sizes_from (length coded)
      sizes-after = subst (λ (n : ℕ). n ≤ sizes_from (length coded)) (ap codes_from (k.long ∙ all-length) ∙ sym c) (codes_before (length coded))

      kept : take (length part) sized ≡ part
      kept =
          ap (λ (n : ℕ). take n sized) part_length
          ∙ (keeps_less sizes-after m).first
          ∙ codes.first
          ∙ ap (λ (n : ℕ). take n all) (sym part_length)
          ∙ take-append_seam part (drop limit notes)

  -- Where the tables aren't noted, that is the answer.
  pub lent_stopped : (e : IndexError) → OpenedTold bytes part (Err e) → LentTold bytes d2 ends all (Err e)
  lent_stopped (index.Wire error) t = t
  lent_stopped index.NoRoom t = λ room.
      let z : codes_from (length all) ≡ length part = ap codes_from all-length ∙ sym c ∙ sym part_length in
      t (record { short = room.short; long = subst (λ (n : ℕ). 3 * length bytes ≤ 2 * n) z room.long })
