-- A string by its index: by the record that serves it, or of d2.
-- Assumes nothing.
use mathlib.Core.Path.{◌≡◌, refl, ap, sym, ◌∙◌, subst}
use mathlib.Core.Bool.{Bool, true, false}
use mathlib.Core.List.{List, [], ◌∷◌}
use mathlib.Core.Option.{Option, none, some}
use Prim.Native.Nat.{ℕ, zero, suc, ◌+◌, ◌-◌, ◌*◌, ◌≤◌, ◌<◌}
use native.Mathlib.Omega.{arith}
use lib.ListN.{length, take, drop, get_or, get_elem?, length-take}
use lib.Seq.{take-take}
use Rattle.std.specs.Prelude.{is_some, if◌then◌else◌}
use Rattle.foundation.specs.Choices.{if_some}
use Rattle.foundation.specs.Results.{Cause, Res, ok, refused, empty_payload, ◌from◌}
use Rattle.foundation.specs.Texts.{Text}
use Rattle.wire.specs.Wire.{cut}
use Rattle.characters.specs.Characters.{utf8, from_utf16}
use Rattle.characters.specs.told.Places.{part_from}
use Rattle.foundation.proofs.ChoiceLaws.{drop-take}
use Rattle.names.specs.Records as definition
use Rattle.names.specs.Records.{decides, text_of}
use Rattle.names.specs.Names.{Names, record_at, strings_from, d2_string, string, qualified_name}
use Rattle.names.specs.told.Name.{source_text, sized, turned, named_text, name_text}
use Rattle.names.specs.told.Index.{start_of, end_of, IndexOf}
use Rattle.lookup.specs.told.Lookups.{found_in, FoundBelow, FindTold, looked_up, NotesOf, NotedWords, DecidedIs, DecidedTold, decided_in}
use Rattle.record_names.specs.told.Named.{NamedIs, ClassIs}
use Rattle.record_names.specs.told.Note.{noted, noted_class}
use Rattle.record_names.specs.told.Steps.{extent_of}
use Rattle.names.specs.declared.name.Name.{Name}
use Rattle.names.specs.declared.name.Source.TheVariants.{D2}
use Rattle.names.specs.declared.name.Operation.TheVariants.{Nothing}
use Rattle.record_names.specs.declared.note.Words.{Words}
use Rattle.foundation.specs.declared.Span.{Span}
use Rattle.std.specs.Prelude.{Some, None}
use Rattle.std.specs.declared.option.Option as rust
use Rattle.names.proofs.FittedLaws.{sized-is}
use Rattle.lookup.specs.told.Strings.{SizeOf}
use Rattle.record_names.proofs.PartLaws.{same-substituted}

elem_some : {A : Type 0} (l : List A) (k : ℕ) → k < length l → (a : A) × (get_elem? l k ≡ some a)
elem_some [] k h = absurd (omega arith)
elem_some (x ∷ l) zero h = (x, refl)
elem_some (x ∷ l) (suc k) h = elem_some l k (omega arith)

-- A part of d2 as a name.
module _ (payload units ends : List ℕ) (index : ℕ) {r : rust.Option Span} (e : get_elem? (strings_from 0 ends units) index ≡ extent_of units r) where
  pub d2-absent : r ≡ None → d2_string (strings_from 0 ends units) index ≡ ok (name_text payload units None)
  unfolding d2_string
  d2-absent g = rw (e, g)

  pub d2-named : {p : Span} → r ≡ Some p → (size : ℕ) → SizeOf units ends index size
      → d2_string (strings_from 0 ends units) index
      ≡ ok (name_text payload units (Some record { source = D2; part = p; from = 0; to = 0; operation = Nothing; qualified = false; size = size }))
  unfolding d2_string named_text source_text turned
  d2-named {p} g size z =
      let t = from_utf16 (part_from p.start p.end units) in
      let h : (size ≡ 0 → ⊥) → size ≡ length (utf8 t) = λ n. z n (part_from p.start p.end units) (e ∙ ap (extent_of units) g) in
      rw (e, g) (ap (λ (t : Text). ok (some t)) (sym (sized-is size t h) ∙ ap (sized size) (sym (same-substituted t))))

-- The look-up: the words of the record that serves.
module _ (notes : List ℕ) (count index : ℕ) {f : rust.Option ℕ} (t : FindTold notes count index f) where
  pub words-none : f ≡ None → NotedWords notes count index None
  words-none g bytes records i = t.is records i.sums ∙ ap (found_in records) g

  pub words-inside : {k : ℕ} → f ≡ Some k → k < count
  words-inside g = subst (FoundBelow count) g t.below

  pub words-some : {k : ℕ} → f ≡ Some k → NotedWords notes count index (Some record { place = get_or notes (3 * k) 0; steps = get_or notes (3 * k + 1) 0 })
  words-some {k} g bytes records i =
      let h : k < count = words-inside g in
      let one = elem_some records k (omega (arith, i.sums.many)) in
      (one.0, t.is records i.sums ∙ ap (found_in records) g ∙ one.1, i.each k one.0 one.1)

  -- where none serves, it is looked up in d2
  pub string-none : f ≡ None → (bytes : List ℕ) (records : List definition.Record) → NotesOf bytes notes count records
      → (d2 : ℕ → Res (Option Text)) {x : Res (Option Text)} → d2 index ≡ x → string (record { records = records; d2 = d2 }) index ≡ x
  unfolding string
  string-none g bytes records i d2 e = rw (words-none g bytes records i) e

-- What they say of its name, and of its class name.
module _ (notes : List ℕ) (count index : ℕ) where
  pub by-none : (class : Bool) → NotedWords notes count index None → DecidedTold notes count index class None
  unfolding string
  by-none class w bytes units records d2 i = rw (w bytes records i)

  module _ {w : Words} (t : NotedWords notes count index (Some w)) where
    named : (bytes units : List ℕ) (names : Names) (r : definition.Record) (d : rust.Option (rust.Option Name)) → record_at index names.records ≡ some r
        → NamedIs bytes units r d → DecidedIs bytes units false names index d
    unfolding string
    named bytes units names r (Some name) e h = rw (e, h.0) (ap ok h.1)
    named bytes units names r None e h = rw (e, h)

    class-named : (bytes units : List ℕ) (names : Names) (r : definition.Record) (d : rust.Option (rust.Option Name)) → record_at index names.records ≡ some r
        → ClassIs bytes units r d → DecidedIs bytes units true names index d
    unfolding string qualified_name
    class-named bytes units names r (Some name) e h = rw (e, h.0) (ap ok h.1)
    class-named bytes units names r None e h = rw (e, h)

    pub by-name : {d : rust.Option (rust.Option Name)} → d ≡ noted w.place w.steps → DecidedTold notes count index false d
    by-name g bytes units records d2 i =
        let r = t bytes records i in
        rw g (named bytes units (record { records = records; d2 = d2 }) r.0 (noted w.place w.steps) r.1 (r.2.is units))

    pub by-class : {d : rust.Option (rust.Option Name)} → d ≡ noted_class w.place w.steps → DecidedTold notes count index true d
    by-class g bytes units records d2 i =
        let r = t bytes records i in
        rw g (class-named bytes units (record { records = records; d2 = d2 }) r.0 (noted_class w.place w.steps) r.1 (r.2.class units))

-- By the words of record k, if they are there.
module _ (notes : List ℕ) (count index : ℕ) {f : rust.Option ℕ} (t : FindTold notes count index f) {k : ℕ} (g : f ≡ Some k) where
  abbrev noted_as : Bool → rust.Option (rust.Option Name)
  noted_as true = noted_class (get_or notes (3 * k) 0) (get_or notes (3 * k + 1) 0)
  noted_as false = noted (get_or notes (3 * k) 0) (get_or notes (3 * k + 1) 0)

  pub by-noted : (class : Bool) {d : rust.Option (rust.Option Name)} → (3 * k + 2 < length notes → d ≡ noted_as class) → DecidedTold notes count index class d
  by-noted class {d} w bytes units records d2 i = go class (w (omega (arith, words-inside notes count index t g, i.sums.long)))
    where
      go : (c : Bool) → d ≡ noted_as c → DecidedIs bytes units c (record { records = records; d2 = d2 }) index d
      go true e = by-class notes count index (words-some notes count index t g) e bytes units records d2 i
      go false e = by-name notes count index (words-some notes count index t g) e bytes units records d2 i

-- By whether a record decides.
module _ (bytes notes : List ℕ) (count index : ℕ) (class : Bool) (r : rust.Option (rust.Option Name)) (t : DecidedTold notes count index class r)
    (units : List ℕ) (records : List definition.Record) (d2 : ℕ → Res (Option Text)) (i : NotesOf bytes notes count records) where
  pub decided-no : r ≡ None → string (record { records = records; d2 = d2 }) index ≡ d2 index
  decided-no g = subst (DecidedIs bytes units class (record { records = records; d2 = d2 }) index) g (t bytes units records d2 i)

  pub decided-yes : {name : rust.Option Name} → r ≡ Some name → looked_up class (record { records = records; d2 = d2 }) index ≡ ok (name_text bytes units name)
  decided-yes g = subst (DecidedIs bytes units class (record { records = records; d2 = d2 }) index) g (t bytes units records d2 i)

-- What a look-up comes to, for whatever is looked up among d2's strings, tells whether a record decides: where d2 refuses, only a record can give a text.
no_text : {A : Type 0} (a : A) (c : Cause) (p : ℕ) → ok a ≡ refused c p → ⊥
no_text a c p e = let z : ◌≡◌ {A = ℕ} 0 1 = cc in absurd (omega arith)

module _ (bytes notes : List ℕ) (count index : ℕ) (records : List definition.Record) (i : NotesOf bytes notes count records) where
  refusing : ℕ → Res (Option Text)
  refusing n = refused empty_payload 0

  decided-of : (o : Option definition.Record) {t : Option Text} → if_some o (refused empty_payload 0) (λ r. if decides r then ok (text_of r) else refused empty_payload 0) ≡ ok t
      → if_some o false decides ≡ true
  decided-of none e = absurd (no_text _ empty_payload 0 (sym e))
  decided-of (some r) {t} e = go (decides r) e
    where
      go : (b : Bool) → (if b then ok (text_of r) else refused empty_payload 0) ≡ ok t → b ≡ true
      go true q = refl
      go false q = absurd (no_text t empty_payload 0 (sym q))

  undecided-of : (o : Option definition.Record) → if_some o (refused empty_payload 0) (λ r. if decides r then ok (text_of r) else refused empty_payload 0) ≡ refused empty_payload 0
      → if_some o false decides ≡ false
  undecided-of none e = refl
  undecided-of (some r) e = go (decides r) e
    where
      go : (b : Bool) → (if b then ok (text_of r) else refused empty_payload 0) ≡ refused empty_payload 0 → b ≡ false
      go true q = absurd (no_text (text_of r) empty_payload 0 q)
      go false q = refl

  pub decided-told : (r : rust.Option (rust.Option Name)) → DecidedTold notes count index false r → decided_in records index ≡ is_some r
  unfolding string refusing
  decided-told (Some name) t = decided-of (record_at index records) (t bytes [] records refusing i)
  decided-told None t = undecided-of (record_at index records) (t bytes [] records refusing i)

-- The index of the bytes up to some place is one of them all.
pub part_longer : (bytes : List ℕ) (n start end : ℕ) → start ≤ end → end ≤ length (take n bytes) → part_from start end (take n bytes) ≡ part_from start end bytes
part_longer bytes n start end h i =
    let c : end ≤ n = omega (arith, length-take n bytes) in
    let e : start + (n - start) ≡ n = omega arith in
    ap (λ (k : ℕ). take (end - start) (drop start (take k bytes))) (sym e)
    ∙ ap (take (end - start)) (drop-take start (n - start) bytes)
    ∙ take-take (end - start) (n - start) (drop start bytes) (omega arith)

pub index_longer : (bytes : List ℕ) (n : ℕ) (notes : List ℕ) (count : ℕ) (records : List definition.Record)
    → IndexOf (take n bytes) notes count records → IndexOf bytes notes count records
index_longer bytes n notes count records i = record {
  sums = i.sums;
  each = λ k r e.
      let a = i.each k r e in
      record {
        ordered = a.ordered;
        inside = omega (arith, a.inside, length-take n bytes);
        message = a.message;
        cuts =
            ap (λ (bs : List ℕ). cut (◌from◌ (start_of (get_or notes (3 * k) 0)) bs)) (sym (part_longer bytes n (start_of (get_or notes (3 * k) 0)) (end_of (get_or notes (3 * k) 0)) a.ordered a.inside))
            ∙ a.cuts;
        is = a.is;
      };
}
