-- A message that can be cut where it stands can be cut elsewhere, and has the same fields there, but for where their bodies stand. So an argument that is
-- dropped in one place is dropped in each, and a type table has as many entries.
-- Assumes nothing.
use mathlib.Core.Path.{◌≡◌, refl, ap, sym, subst, ◌∙◌}
use mathlib.Core.Bool.{Bool, true, false}
use mathlib.Core.List.{List, [], ◌∷◌}
use mathlib.Core.Option.{Option, none, some}
use Prim.Native.Nat.{ℕ, zero, suc, ◌+◌, ◌≤◌, ◌<◌}
use native.Mathlib.Omega.{arith}
use borrow.Author.Tests.{ne_eqb, leb-true}
use lib.Dec.{eqb, leb}
use lib.ListN.{length, take, drop}
use Rattle.std.specs.Prelude.{if◌then◌else◌, Some, None, Result, Ok, Err}
use Rattle.std.specs.Result.{is_ok}
use Rattle.std.specs.declared.option.Option as rust
use Rattle.foundation.specs.Choices.{if_some}
use Rattle.foundation.specs.Results.{Res, ok, refused, ◌>>=◌, Part, ◌from◌, Got, got}
use Rattle.foundation.proofs.ResultLaws.{gives-ok}
use Rattle.fields.specs.Fields.{Type-Argument-projection, Type-Argument-type, Type-Argument-type_id, TypeTable-type}
use Rattle.wire.specs.Wire.{Value, varint, fixed, body, Field, field, read_field, repeated, Message, cut}
use Rattle.wire.specs.Messages.{values, first_of, value, as_varint, as_body, varint_of, index, bytes_of, cut_option, message, bodies_of}
use Rattle.wire.specs.told.WireTold.{rest_of}
use Rattle.wire.specs.declared.WireError.{WireError}
use Rattle.wire.proofs.WalkLaws.{whole}
use Rattle.messages.specs.told.Asked.{CheckedTold, bodies, NextIs, PieceInside, PieceAfter, NextBodyTold}
use Rattle.foundation.specs.declared.Span.{Span}
use Rattle.declaration_rows.specs.Declarations.{star}
use Rattle.schema.specs.Types.{projection_in}
use Rattle.schema.specs.declared.argument.Projection.{Projection}
use Rattle.schema.specs.declared.argument.ArgumentHead.{ArgumentHead}
use Rattle.schema.specs.declared.argument.ArgumentHead.TheVariants as argument
use Rattle.schema.specs.told.ArgumentTold.{ArgumentHeadTold, ArgumentHeadIs}
use Rattle.schema.specs.told.Alike.{Dropped}
use Rattle.joined_types.specs.told.Fates.{NoTypeTold, DroppedTold, EntriesCounted}
use Rattle.joined_types.proofs.FieldLaws.{ValueAgain, field_again}

abbrev has_body : Value → Bool
has_body (varint n) = false
has_body (fixed w n) = false
has_body (body p) = true

-- the same values, but for where bodies stand
data ValuesMoved : List Value → List Value → Type 0 where
  no_values : ValuesMoved [] []
  a_value : (v w : Value) (vs ws : List Value) → as_varint v ≡ as_varint w → has_body v ≡ has_body w → ValuesMoved vs ws → ValuesMoved (v ∷ vs) (w ∷ ws)

-- the same of messages
data Moved : Message → Message → Type 0 where
  no_fields : Moved [] []
  a_field : (n : ℕ) (v w : Value) (m m' : Message) → as_varint v ≡ as_varint w → has_body v ≡ has_body w → Moved m m' → Moved (field n v ∷ m) (field n w ∷ m')

values-moved : (k : ℕ) {m m' : Message} → Moved m m' → ValuesMoved (values k m) (values k m')
unfolding values
values-moved k no_fields = no_values
values-moved k (a_field n v w m m' e f x) = go (eqb n k) (values-moved k x)
  where
    go : (t : Bool) → ValuesMoved (values k m) (values k m') → ValuesMoved (if t then v ∷ values k m else values k m) (if t then w ∷ values k m' else values k m')
    go true y = a_value v w (values k m) (values k m') e f y
    go false y = y

-- what is told of the first of the values, and how many of them are bodies
first-number : {vs ws : List Value} → ValuesMoved vs ws → if_some (first_of vs) none as_varint ≡ if_some (first_of ws) none as_varint
first-number no_values = refl
first-number (a_value v w vs ws e f x) = e

no-body : (v w : Value) → has_body v ≡ has_body w → as_body v ≡ none → as_body w ≡ none
no-body v (varint n) f e = refl
no-body v (fixed k n) f e = refl
no-body (varint n) (body q) f e = let z : ◌≡◌ {A = Bool} false true = f in absurd (cc)
no-body (fixed k n) (body q) f e = let z : ◌≡◌ {A = Bool} false true = f in absurd (cc)
no-body (body p) (body q) f e = let z : ◌≡◌ {A = Option Part} (some p) none = e in absurd (cc)

first-bodiless : {vs ws : List Value} → ValuesMoved vs ws → if_some (first_of vs) none as_body ≡ none → if_some (first_of ws) none as_body ≡ none
first-bodiless no_values e = refl
first-bodiless (a_value v w vs ws e f x) g = no-body v w f g

many-bodies : {vs ws : List Value} → ValuesMoved vs ws → length (bodies_of vs) ≡ length (bodies_of ws)
unfolding bodies_of
many-bodies no_values = refl
many-bodies (a_value v w vs ws e f x) = go v w f (many-bodies x)
  where
    go : (v w : Value) → has_body v ≡ has_body w → length (bodies_of vs) ≡ length (bodies_of ws) → length (bodies_of (v ∷ vs)) ≡ length (bodies_of (w ∷ ws))
    go (varint n) (varint k) f y = y
    go (varint n) (fixed j k) f y = y
    go (varint n) (body q) f y = absurd (cc)
    go (fixed i n) (varint k) f y = y
    go (fixed i n) (fixed j k) f y = y
    go (fixed i n) (body q) f y = absurd (cc)
    go (body p) (varint k) f y = absurd (cc)
    go (body p) (fixed j k) f y = absurd (cc)
    go (body p) (body q) f y = ap suc y

-- What is read at a place is read at another.
moved-field : (a b : ℕ) (bs : List ℕ) {n : ℕ} {v : Value} {rest : Part} → read_field (◌from◌ a bs) ≡ got (field n v) rest
    → (w : Value) × (i : ℕ) × (rest ≡ ◌from◌ (a + i) (drop i bs)) × (read_field (◌from◌ b bs) ≡ got (field n w) (◌from◌ (b + i) (drop i bs)))
    × (as_varint v ≡ as_varint w) × (has_body v ≡ has_body w)
moved-field a b bs {n} {v} {rest} e = go v (gives-ok (λ g. ValueAgain (λ place. read_field) (field g.0.number) (◌from◌ a bs) g.0.value g.1) e (field_again (◌from◌ a bs)))
  where
    go : (v : Value) → ValueAgain (λ place. read_field) (field n) (◌from◌ a bs) v rest
        → (w : Value) × (i : ℕ) × (rest ≡ ◌from◌ (a + i) (drop i bs)) × (read_field (◌from◌ b bs) ≡ got (field n w) (◌from◌ (b + i) (drop i bs)))
        × (as_varint v ≡ as_varint w) × (has_body v ≡ has_body w)
    go (varint k) x = (varint k, x.taken, x.is, x.again 0 b bs refl, refl, refl)
    go (fixed j k) x = (fixed j k, x.taken, x.is, x.again 0 b bs refl, refl, refl)
    go (body p) x = (body (◌from◌ (b + x.start) (take x.count (drop x.start bs))), x.start + x.count, x.is, x.again 0 b bs refl x.fits, refl, refl)

record CutMoved (k b : ℕ) (bs : List ℕ) (m : Message) : Type 0 where
  there : Message
  is : repeated read_field k (◌from◌ b bs) ≡ ok there
  moved : Moved m there

-- the first field and what follows it
fields-first : {A : Type 0} (r : Res (Got A)) (rest : Part → Res (List A)) {xs : List A} → (r >>= λ (x, p). rest p >>= λ ys. ok (x ∷ ys)) ≡ ok xs
    → (x : A) × (p : Part) × (ys : List A) × (r ≡ got x p) × (rest p ≡ ok ys) × (xs ≡ x ∷ ys)
fields-first {A} (ok g) rest {xs} e = go (rest g.1) refl e
  where
    go : (r : Res (List A)) → rest g.1 ≡ r → (r >>= λ ys. ok (g.0 ∷ ys)) ≡ ok xs
        → (x : A) × (p : Part) × (ys : List A) × (ok g ≡ got x p) × (rest p ≡ ok ys) × (xs ≡ x ∷ ys)
    go (ok ys) f h = (g.0, g.1, ys, refl, f, cc)
    go (refused c p) f h = let z : ◌≡◌ {A = ℕ} 0 1 = cc in absurd (omega arith)
fields-first (refused c p) rest e = let z : ◌≡◌ {A = ℕ} 0 1 = cc in absurd (omega arith)

then_fields : (k : ℕ) (p : Part) {f : Field} {rest : Part} {fs : Message} → read_field p ≡ got f rest → repeated read_field k rest ≡ ok fs
    → (read_field p >>= λ (x, rest). repeated read_field k rest >>= λ xs. ok (x ∷ xs)) ≡ ok (f ∷ fs)
then_fields k p e h = rw (e, h)

moved-next : (k a b c : ℕ) (bs : List ℕ) {m : Message} {f : Field} {p : Part} {fs : Message} → read_field (◌from◌ a (c ∷ bs)) ≡ got f p → m ≡ f ∷ fs
    → ((i : ℕ) → p ≡ ◌from◌ (a + i) (drop i (c ∷ bs)) → CutMoved k (b + i) (drop i (c ∷ bs)) fs) → CutMoved (suc k) b (c ∷ bs) m
unfolding repeated
moved-next k a b c bs {m} {f} {p} {fs} x z h =
    let w = moved-field a b (c ∷ bs) x in
    let r = h w.1 w.2 in
    record {
      there = field f.number w.0 ∷ r.there;
      is = then_fields k (◌from◌ b (c ∷ bs)) {fs = r.there} w.3 r.is;
      moved = subst (λ (x : Message). Moved x (field f.number w.0 ∷ r.there)) (sym z) (a_field f.number f.value w.0 fs r.there w.4 w.5 r.moved);
    }

moved-cut : (k a b : ℕ) (bs : List ℕ) {m : Message} → repeated read_field k (◌from◌ a bs) ≡ ok m → CutMoved k b bs m
unfolding repeated
moved-cut zero a b bs {m} e = let n : [] ≡ m = cc in record { there = []; is = refl; moved = subst (λ (m : Message). Moved m []) n no_fields }
moved-cut (suc k) a b [] {m} e = let n : [] ≡ m = cc in record { there = []; is = refl; moved = subst (λ (m : Message). Moved m []) n no_fields }
moved-cut (suc k) a b (c ∷ bs) {m} e =
    let q = fields-first (read_field (◌from◌ a (c ∷ bs))) (repeated read_field k) e in
    moved-next k a b c bs q.3 q.5 λ i w. moved-cut k (a + i) (b + i) (drop i (c ∷ bs)) {m = q.2} (subst (λ (p : Part). repeated read_field k p ≡ ok q.2) w q.4)

-- a message that is cut is cut wherever it stands
record Elsewhere (b : ℕ) (s : List ℕ) (m : Message) : Type 0 where
  there : Message
  is : cut (◌from◌ b s) ≡ ok there
  moved : Moved m there

elsewhere : (a b : ℕ) (s : List ℕ) {m : Message} → cut (◌from◌ a s) ≡ ok m → Elsewhere b s m
unfolding cut
elsewhere a b s e = let x = moved-cut (length s) a b s e in record { there = x.there; is = x.is; moved = x.moved }

-- an argument that is dropped
dropped-moved : (n : ℕ) {m m' : Message} → Moved m m' → Dropped n m → Dropped n m'
unfolding projection_in index varint_of message bytes_of
dropped-moved n {m} {m'} x d = record {
  other = rw (← first-number (values-moved Type-Argument-projection x)) (d.other);
  inline = ap cut_option (first-bodiless (values-moved Type-Argument-type x) (bodiless (if_some (value Type-Argument-type m) none as_body) d.inline));
  indexed = rw (← first-number (values-moved Type-Argument-type_id x)) (d.indexed);
}
  where
    bodiless : (o : Option Part) → cut_option o ≡ ok none → o ≡ none
    bodiless none e = refl
    bodiless (some p) e = go (cut p) e
      where
        go : (r : Res Message) → (r >>= λ m. ok (some m)) ≡ ok none → some p ≡ none
        go (ok m) h = let z : ◌≡◌ {A = ℕ} 0 1 = cc in absurd (omega arith)
        go (refused c q) h = let z : ◌≡◌ {A = ℕ} 0 1 = cc in absurd (omega arith)

bodiless-message : (m : Message) → bytes_of Type-Argument-type m ≡ none → message Type-Argument-type m ≡ ok none
unfolding message
bodiless-message m e = ap cut_option e

module _ (n base : ℕ) (s : List ℕ) {r : ArgumentHead} (t : ArgumentHeadTold base s r) where
  -- an argument with no type
  pub no-type_nothing : r ≡ argument.Nothing → NoTypeTold n base s true
  no-type_nothing q m e =
      let h = subst (ArgumentHeadIs base s m) q (t.is m e) in
      record { other = ne_eqb (projection_in m) star h.0.no-star; inline = bodiless-message m h.1; indexed = rw (h.2) tt }

  -- and one with an index, by the test whether the type table has an entry there
  pub no-type_index : (w : ℕ) {p : Projection} {i : ℕ} → r ≡ argument.ByIndex p i → w ≡ i → NoTypeTold n base s (leb n w)
  no-type_index w {p} {i} q u = go (leb n w) refl
    where
      go : (b : Bool) → leb n w ≡ b → NoTypeTold n base s b
      go false v = tt
      go true v = λ m e.
          let h = subst (ArgumentHeadIs base s m) q (t.is m e) in
          let o : eqb (projection_in m) star ≡ false = rw (h.0.is) (ne_eqb _ star h.0.no-star) in
          let l : n ≤ i = omega (arith, leb-true n w v) in
          record { other = o; inline = bodiless-message m h.1; indexed = rw (h.2) l }

-- One that is cut in one place is cut, and dropped, in each.
module _ (n : ℕ) (s : List ℕ) (h : NoTypeTold n 0 s true) where
  dropped_everywhere : {m : Message} → cut (◌from◌ 0 s) ≡ ok m → DroppedTold n s true
  dropped_everywhere {m} e base = let x = elsewhere 0 base s e in (x.there, x.is, dropped-moved n x.moved (h m e))

  pub dropped_if_cut : (r : Result Unit WireError) → CheckedTold (cut (◌from◌ 0 s)) r → {b : Bool} → b ≡ is_ok r → DroppedTold n s b
  dropped_if_cut (Ok u) c e = subst (DroppedTold n s) (sym e) (dropped_everywhere c.1)
  dropped_if_cut (Err error) c e = subst (DroppedTold n s) (sym e) tt

-- how many entries a type table has
pub entries_everywhere : (s : List ℕ) (n : ℕ) → ((m : Message) → cut (◌from◌ 0 s) ≡ ok m → length (bodies TypeTable-type m) ≡ n) → EntriesCounted s n
entries_everywhere s n h base m e =
    let x = elsewhere base 0 s e in
    many-bodies (values-moved TypeTable-type x.moved) ∙ h x.there x.is

-- The walk that counts: so many entries stand before a place.
pub record EntriesBefore (s : List ℕ) (at count : ℕ) : Type 0 where
  pub few : count ≤ at
  pub counted : (m : Message) → cut (◌from◌ 0 s) ≡ ok m
      → (rest : Message) × (cut (rest_of 0 s at) ≡ ok rest) × (length (bodies TypeTable-type m) ≡ count + length (bodies TypeTable-type rest))

pub entries_start : (s : List ℕ) → EntriesBefore s 0 0
entries_start s = record { few = omega arith; counted = λ m e. (m, ap cut (whole 0 s) ∙ e, omega arith) }

module _ (s : List ℕ) (at count : ℕ) (g : EntriesBefore s at count) {x : rust.Option Span} (t : NextBodyTold 0 s TypeTable-type at x) where
  pub entries_end : x ≡ None → EntriesCounted s count
  entries_end q = entries_everywhere s count λ m e.
      let w = g.counted m e in
      let none_left : bodies TypeTable-type w.0 ≡ [] = subst (NextIs 0 s TypeTable-type w.0) q (t.is w.0 w.1) in
      let many : length (bodies TypeTable-type w.0) ≡ 0 = ap length none_left in
      w.2 ∙ omega arith

  module _ {p : Span} (q : x ≡ Some p) where
    pub entry-inside-table : (at < p.end) × (p.end ≤ length s)
    entry-inside-table = let i = subst (PieceInside s) q t.inside in (subst (PieceAfter at) q t.later, i.1)

    pub entries_next : EntriesBefore s p.end (count + 1)
    entries_next = record {
      few = omega (arith, g.few, entry-inside-table.0);
      counted = λ m e.
          let w = g.counted m e in
          let n = subst (NextIs 0 s TypeTable-type w.0) q (t.is w.0 w.1) in
          let many : length (bodies TypeTable-type w.0) ≡ suc (length (bodies TypeTable-type n.0)) = ap length n.2 in
          (n.0, n.1, w.2 ∙ omega arith);
    }
