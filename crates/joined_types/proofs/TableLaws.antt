-- A type table whose entries are joined, and a body whose type table is joined, field by field.
-- Assumes nothing.
use mathlib.Core.Path.{◌≡◌, refl, ap, sym, subst, ◌∙◌}
use mathlib.Core.Logic.{◌≢◌}
use mathlib.Core.Bool.{Bool, true, false}
use mathlib.Core.List.{List, [], ◌∷◌}
use Prim.Native.Nat.{ℕ, suc, ◌+◌, ◌-◌, ◌≤◌, ◌<◌}
use native.Mathlib.Omega.{arith}
use borrow.Author.Tests.{ne_eqb, eqb-true}
use borrow.Rule.Slice.PartMut.{put_mid}
use lib.Dec.{eqb}
use lib.ListN.{length, take, drop}
use Rattle.std.specs.Prelude.{if◌then◌else◌, Ok, Some, None}
use Rattle.std.specs.declared.option.Option as rust
use Rattle.foundation.specs.Results.{Res, ok, refused, ◌>>=◌, Part, ◌from◌}
use Rattle.foundation.specs.declared.Read.{Read}
use Rattle.foundation.specs.declared.Span.{Span}
use Rattle.fields.specs.Fields.{Class-type_table, TypeTable-type, TypeTable-first_nullable}
use Rattle.wire.specs.Wire.{Value, varint, fixed, body, Field, field, read_field, Message, cut}
use Rattle.wire.specs.Messages.{first_of, values, bodies_of, cut_all, bytes_of, message, messages}
use Rattle.wire.specs.told.WireTold.{rest_of, part_between, told_field, Inside, FieldTold, piece_of}
use Rattle.wire.specs.declared.WireValue.{WireValue}
use Rattle.wire.specs.declared.WireValue.TheVariants as wire
use Rattle.wire.specs.declared.Field as code
use Rattle.wire.proofs.WalkLaws.{bind_ok, ok_same, field-inside}
use Rattle.messages.specs.told.Asked.{bodies, piece_if}
use Rattle.schema.specs.told.Alike.{Alike, AlikeOption, SameType, SameTypes, next_entry, SameTable, JoinedAs}
use Rattle.joined_types.specs.told.Runs.{SameAround}
use Rattle.joined_types.specs.told.Fates.{EntriesCounted, BodyJoined}
use Rattle.schema.proofs.AlikeLaws.{alike-itself, alike-cons, alike-some, option-itself, type-itself, types-itself}
use Rattle.joined_types.proofs.JoiningLaws.{Carries, Joining, joining_start, joining_end, joining_kept, joining_body}
use Rattle.joined_types.proofs.PutBackLaws.{put-back, put-joined}
use Rattle.joined_types.proofs.BodyReadings.{SameBody, bodies-alike}

-- The values of a field after one field more on both sides.
pub values-more : (i : ℕ) (f : Field) (m m' : Message) → values i m ≡ values i m' → values i (f ∷ m) ≡ values i (f ∷ m')
unfolding values
values-more i f m m' e = ap (λ (vs : List Value). if eqb f.number i then f.value ∷ vs else vs) e

-- of other fields
pub values-other : (i n : ℕ) (v v' : Value) (m m' : Message) → eqb n i ≡ false → values i m ≡ values i m' → values i (field n v ∷ m) ≡ values i (field n v' ∷ m')
unfolding values
values-other i n v v' m m' h e = rw (h, e)

-- A type table of n entries of which some are joined: as many stand in it, each alike.
pub record TableBy (n k : ℕ) (m m' : Message) : Type 0 where
  pub first : values TypeTable-first_nullable m ≡ values TypeTable-first_nullable m'
  pub types : Alike (SameTypes n k) (messages TypeTable-type m) (messages TypeTable-type m')

module _ (n k : ℕ) where
  -- an entry more, or another value
  module _ (vs vs' : List Value) (a : Alike (SameTypes n k) (cut_all (bodies_of vs)) (cut_all (bodies_of vs'))) where
    entry-more : (p q : Part) → Alike (SameType n k) (cut p) (cut q)
        → Alike (SameTypes n k) (cut_all (bodies_of (body p ∷ vs))) (cut_all (bodies_of (body q ∷ vs')))
    unfolding bodies_of cut_all
    entry-more p q e =
        alike-cons (SameType n k) (SameTypes n k) (cut p) (cut q) (cut_all (bodies_of vs)) (cut_all (bodies_of vs')) (λ x y xs ys t ts. next_entry t ts) e a

    value-more : (v : Value) → Alike (SameTypes n k) (cut_all (bodies_of (v ∷ vs))) (cut_all (bodies_of (v ∷ vs')))
    unfolding bodies_of
    value-more (varint x) = a
    value-more (fixed w x) = a
    value-more (body p) = entry-more p p (alike-itself (SameType n k) (type-itself n k) (cut p))

    field-more : (t : Bool) (v : Value)
        → Alike (SameTypes n k) (cut_all (bodies_of (if t then v ∷ vs else vs))) (cut_all (bodies_of (if t then v ∷ vs' else vs')))
    field-more true v = value-more v
    field-more false v = a

  pub table-field : (f : Field) → Carries (TableBy n k) (TableBy n k) f f
  unfolding messages values
  table-field f m m' t = record {
    first = ap (λ (vs : List Value). if eqb f.number TypeTable-first_nullable then f.value ∷ vs else vs) t.first;
    types = field-more (values TypeTable-type m) (values TypeTable-type m') t.types (eqb f.number TypeTable-type) f.value;
  }

  pub table-body : (p q : Part) → Alike (SameType n k) (cut p) (cut q) → Carries (TableBy n k) (TableBy n k) (field TypeTable-type (body p)) (field TypeTable-type (body q))
  unfolding messages values
  table-body p q e m m' t = record {
    first = t.first;
    types = entry-more (values TypeTable-type m) (values TypeTable-type m') t.types p q e;
  }

  pub table-by-itself : (m : Message) → TableBy n k m m
  table-by-itself m = record { first = refl; types = alike-itself (SameTypes n k) (types-itself n k) (messages TypeTable-type m) }

-- as many messages as there are bodies
cut-one-more : (p : Part) (ps : List Part) (ms : List Message) → ((ms : List Message) → cut_all ps ≡ ok ms → length ms ≡ length ps)
    → (r : Res Message) → (r >>= λ m. cut_all ps >>= λ ms. ok (m ∷ ms)) ≡ ok ms → length ms ≡ suc (length ps)
cut-one-more p ps ms h (ok m) e =
    let q = bind_ok (cut_all ps) (λ ms. m ∷ ms) e in
    ap length q.2 ∙ ap suc (h q.0 q.1)
cut-one-more p ps ms h (refused c place) e = let z : ◌≡◌ {A = ℕ} 0 1 = cc in absurd (omega arith)

cut_all-many : (ps : List Part) (ms : List Message) → cut_all ps ≡ ok ms → length ms ≡ length ps
unfolding cut_all
cut_all-many [] ms e = let q : ms ≡ [] = ok_same (sym e) in ap length q
cut_all-many (p ∷ ps) ms e = cut-one-more p ps ms (λ ms e. cut_all-many ps ms e) (cut p) e

-- a table of n entries that is so joined is the same
module _ (n k : ℕ) where
  counted : (r r' : Res (List Message)) → ((ms : List Message) → r ≡ ok ms → length ms ≡ n) → Alike (SameTypes n k) r r'
      → Alike (λ ms ms'. SameTypes (length ms) k ms ms') r r'
  counted (ok ms) (ok ms') h a = rw (h ms refl) a
  counted (ok ms) (refused c p) h a = a
  counted (refused c p) r' h a = a

  table-same : (m m' : Message) → length (bodies TypeTable-type m) ≡ n → TableBy n k m m' → SameTable k m m'
  unfolding messages
  table-same m m' h t = record {
    first = ap first_of t.first;
    types = counted (messages TypeTable-type m) (messages TypeTable-type m') (λ ms e. cut_all-many (bodies TypeTable-type m) ms e ∙ h) t.types;
  }

  table-cut : (r r' : Res Message) → ((m : Message) → r ≡ ok m → length (bodies TypeTable-type m) ≡ n) → Alike (TableBy n k) r r' → Alike (SameTable k) r r'
  table-cut (ok m) (ok m') h a = table-same m m' (h m refl) a
  table-cut (ok m) (refused c p) h a = a
  table-cut (refused c p) r' h a = a

  pub table-joined : (s t : List ℕ) → ((base : ℕ) (m : Message) → cut (◌from◌ base s) ≡ ok m → length (bodies TypeTable-type m) ≡ n)
      → JoinedAs (TableBy n k) s t → JoinedAs (SameTable k) s t
  table-joined s t h j = record { many = j.many; alike = λ base. table-cut (cut (◌from◌ base s)) (cut (◌from◌ base t)) (h base) (j.alike base) }

-- The table is like itself.
table-itself : (k : ℕ) (m : Message) → SameTable k m m
table-itself k m = record {
  first = refl;
  types = alike-itself (λ ms ms'. SameTypes (length ms) k ms ms') (λ ms. types-itself (length ms) k ms) (messages TypeTable-type m);
}

-- After the table of a body all is the same.
abbrev pub SameValues : Message → Message → Type 0
SameValues m m' = (i : ℕ) → values i m ≡ values i m'

module _ (k : ℕ) where
  pub body-itself : (m : Message) → SameBody k m m
  body-itself m = record {
    others = λ i h. refl;
    table = alike-itself (AlikeOption (SameTable k)) (option-itself (SameTable k) (table-itself k)) (message Class-type_table m);
  }

  -- before it stand other fields
  pub body-field : (f : Field) → eqb f.number Class-type_table ≡ false → Carries (SameBody k) (SameBody k) f f
  unfolding message bytes_of values
  body-field f h m m' b = record { others = λ i q. values-more i f m m' (b.others i q); table = rw h b.table }

  pub body-table : (p q : Part) → Alike (SameTable k) (cut p) (cut q) → Carries SameValues (SameBody k) (field Class-type_table (body p)) (field Class-type_table (body q))
  unfolding message bytes_of values
  body-table p q e m m' v = record {
    others = λ i h. values-other i Class-type_table (body p) (body q) m m' h (v i);
    table = alike-some (SameTable k) (cut p) (cut q) e;
  }

-- a field is read only before the end
pub read_before : (b : ℕ) (t : List ℕ) (at : ℕ) (x : Read code.Field) → FieldTold b t (read_field (rest_of b t at)) (Ok x) → at ≤ length t → at < length t
read_before b t at x e h = let i = field-inside b t at x e h in omega arith

-- what is left gets less
pub joining-less : {W R : Message → Message → Type 0} {s t : List ℕ} {at : ℕ} → Joining W R s t at at
    → (b : ℕ) (x : Read code.Field) → FieldTold b t (read_field (rest_of b t at)) (Ok x) → length s - x.next < length s - at
joining-less {W} {R} {s} {t} {at} j b x e = let i = field-inside b t at x e (omega (arith, j.inside, j.many)) in omega (arith, j.many)

-- a field whose body is asked for
body-is : (v : WireValue) {p : Span} → piece_of v ≡ Some p → v ≡ wire.Body p
body-is (wire.Varint n) e = let z : ◌≡◌ {A = ℕ} 0 1 = cc in absurd (omega arith)
body-is (wire.Fixed w n) e = let z : ◌≡◌ {A = ℕ} 0 1 = cc in absurd (omega arith)
body-is (wire.Body q) {p} e = let f : q ≡ p = cc in ap wire.Body f

entry-is : (k n : ℕ) (v : WireValue) {p : Span} → piece_if k n v ≡ Some p → (n ≡ k) × (v ≡ wire.Body p)
entry-is k n v {p} e = go (eqb n k) refl e
  where
    go : (t : Bool) → eqb n k ≡ t → (if t then piece_of v else None) ≡ Some p → (n ≡ k) × (v ≡ wire.Body p)
    go true q e = (eqb-true n k q, body-is v e)
    go false q e = let z : ◌≡◌ {A = ℕ} 0 1 = cc in absurd (omega arith)

-- A walk over a type table: each field stays, and an entry's body is joined.
module _ (n k : ℕ) (s : List ℕ) where
  pub table-start : Joining (TableBy n k) (TableBy n k) s s 0 0
  table-start = joining_start (TableBy n k) (TableBy n k) s λ m m' t. t

  module _ {t : List ℕ} {at : ℕ} (j : Joining (TableBy n k) (TableBy n k) s t at at) where
    pub table-end : EntriesCounted s n → JoinedAs (SameTable k) s t
    table-end c = table-joined n k s t c (joining_end (table-by-itself n k) j)

    module _ (b : ℕ) (x : Read code.Field) (e : FieldTold b t (read_field (rest_of b t at)) (Ok x)) where
      pub table-passed : Joining (TableBy n k) (TableBy n k) s t x.next x.next
      table-passed = joining_kept j b x e (read_before b t at x e (omega (arith, j.inside, j.many))) λ base. table-field n k (told_field base t x.value)

      table-entry : {p : Span} {t' : List ℕ} → x.value.number ≡ TypeTable-type → x.value.value ≡ wire.Body p → SameAround t t' p.start p.end
          → JoinedAs (SameType n k) (take (p.end - p.start) (drop p.start t)) (take (p.end - p.start) (drop p.start t'))
          → Joining (TableBy n k) (TableBy n k) s t' x.next x.next
      table-entry {p} {t'} q g a h =
          joining_body j b x e (read_before b t at x e (omega (arith, j.inside, j.many))) g a λ base.
          rw q (table-body n k (part_between base t p.start p.end) (part_between base t' p.start p.end) (h.alike (base + p.start)))

      pub table-put : {r : rust.Option Span} {p : Span} (ys : List ℕ) → r ≡ piece_if TypeTable-type x.value.number x.value.value → r ≡ Some p
          → JoinedAs (SameType n k) (take (p.end - p.start) (drop p.start t)) ys
          → Joining (TableBy n k) (TableBy n k) s (put_mid p.start (p.end - p.start) t ys) x.next x.next
      table-put {r} {p} ys q g h =
          let d = entry-is TypeTable-type x.value.number x.value.value (sym q ∙ g) in
          let i : Inside t (wire.Body p) = subst (Inside t) d.1 e.1 in
          table-entry d.0 d.1 (put-back t ys p i.0 i.1 (SameType n k) h) (put-joined t ys p i.0 i.1 (SameType n k) h)

-- A walk over a body: up to its type table each field stays, the table's body is joined, and the walk ends.
module _ (k : ℕ) (s : List ℕ) where
  pub body-start : Joining (SameBody k) (SameBody k) s s 0 0
  body-start = joining_start (SameBody k) (SameBody k) s λ m m' b. b

  module _ {t : List ℕ} {at : ℕ} (j : Joining (SameBody k) (SameBody k) s t at at) where
    pub body-end : JoinedAs (SameBody k) s t
    body-end = joining_end (body-itself k) j

    module _ (b : ℕ) (x : Read code.Field) (e : FieldTold b t (read_field (rest_of b t at)) (Ok x)) where
      pub body-passed : x.value.number ≢ Class-type_table → Joining (SameBody k) (SameBody k) s t x.next x.next
      body-passed q =
          joining_kept j b x e (read_before b t at x e (omega (arith, j.inside, j.many))) λ base.
          body-field k (told_field base t x.value) (ne_eqb x.value.number Class-type_table q)

      pub body-put : {r : rust.Option Span} {p : Span} (ys : List ℕ) → x.value.number ≡ Class-type_table → r ≡ piece_of x.value.value → r ≡ Some p
          → JoinedAs (SameTable k) (take (p.end - p.start) (drop p.start t)) ys → JoinedAs (SameBody k) s (put_mid p.start (p.end - p.start) t ys)
      body-put {r} {p} ys q f g h =
          let d = body-is x.value.value (sym f ∙ g) in
          let i : Inside t (wire.Body p) = subst (Inside t) d e.1 in
          let t' = put_mid p.start (p.end - p.start) t ys in
          let z = put-joined t ys p i.0 i.1 (SameTable k) h in
          let after : Joining (SameBody k) SameValues s t' x.next x.next =
          joining_body j b x e (read_before b t at x e (omega (arith, j.inside, j.many))) d (put-back t ys p i.0 i.1 (SameTable k) h) λ base.
          rw q (body-table k (part_between base t p.start p.end) (part_between base t' p.start p.end) (z.alike (base + p.start))) in
          joining_end (λ m i. refl) after

  -- a body so joined is read the same
  pub body-joined : {t : List ℕ} → JoinedAs (SameBody k) s t → BodyJoined s t
  body-joined {t} j = record {
    many = j.many;
    reads = λ base class names left. sym (bodies-alike k class names (cut (◌from◌ base s)) (cut (◌from◌ base t)) (j.alike base) left);
  }
