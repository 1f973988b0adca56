-- What is read at a place goes by the bytes up to the place after it, and not by what follows, nor by where the part stands. Of a body it goes by
-- the bytes before it, and its bytes may become others.
-- Assumes nothing.
use mathlib.Core.Path.{◌≡◌, refl, ap, sym, ◌∙◌}
use mathlib.Core.Bool.{true}
use mathlib.Core.List.{List, [], ◌∷◌}
use Prim.Native.Nat.{ℕ, zero, suc, ◌+◌, ◌-◌, ◌/◌, ◌%◌, ◌≤◌, ◌<◌}
use native.Mathlib.Nat.{add_assoc}
use native.Mathlib.Omega.{arith}
use borrow.Author.Tests.{ltb-true, ltb-false, lt-ltb, le-ltb, eqb-true}
use lib.Dec.{eqb, ltb}
use lib.ListN.{length, take, drop, length-take, length-drop}
use lib.Seq.{drop-drop, take-take, length-take-le}
use Rattle.foundation.specs.Results.{Res, Part, ◌from◌, Got, got, map_got}
use Rattle.foundation.specs.Digits.{number}
use Rattle.foundation.proofs.ChoiceLaws.{if_ind, drop-take}
use Rattle.foundation.proofs.ResultLaws.{Gives, gives-ok, gives_bind, gives_weaken, gives-map}
use Rattle.wire.specs.Wire.{
  group,
  groups_from,
  read_groups,
  read_varint,
  read_bytes,
  read_delimited,
  Value,
  varint,
  fixed,
  body,
  read_fixed,
  read_value,
  VARINT,
  I64,
  LEN,
  I32,
  Field,
  field,
  is_field_number,
  read_field,
}
use Rattle.wire.specs.told.WireTold.{rest_of, part_between, value_of, Inside, FieldTold}
use Rattle.wire.specs.declared.WireValue.{WireValue}
use Rattle.wire.specs.declared.WireValue.TheVariants as wire
use Rattle.wire.specs.declared.Field as code
use Rattle.foundation.specs.declared.Read.{Read}
use Rattle.foundation.specs.declared.Span.{Span}
use Rattle.std.specs.Prelude.{Ok}
use Rattle.wire.proofs.Readers.{bytes-there}
use Rattle.wire.proofs.FieldLaws.{value-varint, value-fixed8, value-body, value-fixed4, field-value}

-- the first of two lists that begin alike
pub take_fewer : (j k : ℕ) (xs ys : List ℕ) → j ≤ k → take k xs ≡ take k ys → take j xs ≡ take j ys
take_fewer j k xs ys h e = sym (take-take j k xs h) ∙ ap (take j) e ∙ take-take j k ys h

pub take_later : (j k : ℕ) (xs ys : List ℕ) → take (j + k) xs ≡ take (j + k) ys → take k (drop j xs) ≡ take k (drop j ys)
take_later j k xs ys e = sym (drop-take j k xs) ∙ ap (drop j) e ∙ drop-take j k ys

take_long : (k : ℕ) (xs ys : List ℕ) → k ≤ length ys → take k xs ≡ take k ys → k ≤ length xs
take_long k xs ys h e =
    let n : length (take k xs) ≡ length (take k ys) = ap length e in
    let a = length-take k xs in
    let b = length-take k ys in
    omega arith

take_first : (n b : ℕ) (bs cs : List ℕ) → take (suc n) cs ≡ take (suc n) (b ∷ bs) → (ds : List ℕ) × (cs ≡ b ∷ ds) × (take n ds ≡ take n bs)
take_first n b bs [] e = let z : ◌≡◌ {A = ℕ} 0 (suc (length (take n bs))) = ap length e in absurd (omega arith)
take_first n b bs (c ∷ ds) e = (ds, ap (λ (x : ℕ). x ∷ ds) (head e), tail e)
  where
    head : {x y : ℕ} {xs ys : List ℕ} → x ∷ xs ≡ y ∷ ys → x ≡ y
    head e = cc

    tail : {x y : ℕ} {xs ys : List ℕ} → x ∷ xs ≡ y ∷ ys → xs ≡ ys
    tail e = cc

-- Of a part p a reader gives v and the rest. It takes some bytes, and gives v wherever these bytes stand at the start of a part.
pub record Again {A : Type 0} (read : ℕ → Part → Res (Got A)) (v : A) (p rest : Part) : Type 0 where
  pub taken : ℕ
  pub fits : taken ≤ length p.bytes
  pub is : rest ≡ ◌from◌ (p.at + taken) (drop taken p.bytes)
  pub again : (place a : ℕ) (bs : List ℕ) → take taken bs ≡ take taken p.bytes → read place (◌from◌ a bs) ≡ got v (◌from◌ (a + taken) (drop taken bs))

-- The same of a body: with other bytes in it, it is these.
pub record AgainIn {A : Type 0} (read : ℕ → Part → Res (Got A)) (v : Part → A) (p q rest : Part) : Type 0 where
  pub start : ℕ
  pub count : ℕ
  pub fits : start + count ≤ length p.bytes
  pub piece : q ≡ ◌from◌ (p.at + start) (take count (drop start p.bytes))
  pub is : rest ≡ ◌from◌ (p.at + (start + count)) (drop (start + count) p.bytes)
  pub again : (place a : ℕ) (bs : List ℕ) → take start bs ≡ take start p.bytes → start + count ≤ length bs
      → read place (◌from◌ a bs) ≡ got (v (◌from◌ (a + start) (take count (drop start bs)))) (◌from◌ (a + (start + count)) (drop (start + count) bs))

-- varints
group-again : (k b a : ℕ) (bs : List ℕ) → b < 128 → Again (λ place p. groups_from place (suc k) p.at p.bytes) (group k b ∷ []) (◌from◌ a (b ∷ bs)) (◌from◌ (a + 1) bs)
unfolding groups_from
group-again k b a bs l = record {
  taken = 1;
  fits = omega arith;
  is = refl;
  again = λ place c cs e. let f = take_first 0 b bs cs e in rw (f.1) (simp (lt-ltb b 128 l));
}

more_of : (place k c b : ℕ) (bs : List ℕ) → 128 ≤ b
    → groups_from place (suc k) c (b ∷ bs) ≡ map_got (λ gs. group k b ∷ gs) (groups_from place k (c + 1) bs)
unfolding groups_from
more_of place k c b bs l = simp (le-ltb b 128 l)

groups-again : (s k a : ℕ) (bs : List ℕ) → Gives (λ g. Again (λ place p. groups_from place k p.at p.bytes) g.0 (◌from◌ a bs) g.1) (groups_from s k a bs)
unfolding groups_from
groups-again s k a [] = tt
groups-again s zero a (b ∷ bs) = tt
groups-again s (suc k) a (b ∷ bs) =
    let P : Got (List ℕ) → Type 0 = λ g. Again (λ place p. groups_from place (suc k) p.at p.bytes) g.0 (◌from◌ a (b ∷ bs)) g.1 in
    let more = groups_from s k (a + 1) bs in
    if_ind (Gives P) (ltb b 128) (λ t. group-again k b a bs (ltb-true b 128 t)) λ t.
    gives-map P (λ gs. group k b ∷ gs) more
    (gives_weaken _ (λ g. P (group k b ∷ g.0, g.1)) more (groups-again s k (a + 1) bs) λ g w. longer g.0 g.1 (ltb-false b 128 t) w)
  where
    longer : (gs : List ℕ) (rest : Part) → 128 ≤ b → Again (λ place p. groups_from place k p.at p.bytes) gs (◌from◌ (a + 1) bs) rest
        → Again (λ place p. groups_from place (suc k) p.at p.bytes) (group k b ∷ gs) (◌from◌ a (b ∷ bs)) rest
    longer gs rest l w = record {
      taken = suc w.taken;
      fits = omega (arith, w.fits);
      is = w.is ∙ ap (λ (n : ℕ). ◌from◌ n (drop w.taken bs)) (omega arith);
      again = λ place c cs e.
          let f = take_first w.taken b bs cs e in
          let n : c + 1 + w.taken ≡ c + suc w.taken = omega arith in
          rw (f.1) (more_of place k c b f.0 l ∙ ap (map_got (λ gs. group k b ∷ gs)) (w.again place (c + 1) f.0 f.2) ∙ ap (λ (n : ℕ). got (group k b ∷ gs) (◌from◌ n (drop w.taken f.0))) n);
    }

varint_again : (p : Part) → Gives (λ g. Again (λ place. read_varint) g.0 p g.1) (read_varint p)
unfolding read_varint
varint_again p =
    let P : Got ℕ → Type 0 = λ g. Again (λ place. read_varint) g.0 p g.1 in
    gives-map P (number 128) (read_groups p)
    (gives_weaken _ (λ g. P (number 128 g.0, g.1)) (read_groups p) (groups-again p.at 10 p.at p.bytes) λ g w.
    record {
      taken = w.taken;
      fits = w.fits;
      is = w.is;
      again = λ place a bs e. ap (map_got (number 128)) (w.again a a bs e);
    })

-- bodies
body_after : (a n t : ℕ) (bs : List ℕ) → read_varint (◌from◌ a bs) ≡ got n (◌from◌ (a + t) (drop t bs)) → n ≤ length (drop t bs)
    → read_delimited (◌from◌ a bs) ≡ got (◌from◌ (a + t) (take n (drop t bs))) (◌from◌ (a + (t + n)) (drop (t + n) bs))
unfolding read_delimited
body_after a n t bs e h = rw e (bytes-there a n (◌from◌ (a + t) (drop t bs)) h ∙ rw (drop-drop, add_assoc))

pub delimited_again : (p : Part) → Gives (λ g. AgainIn (λ place. read_delimited) (λ q. q) p g.0 g.1) (read_delimited p)
unfolding read_delimited read_bytes
delimited_again p =
    let P : Got Part → Type 0 = λ g. AgainIn (λ place. read_delimited) (λ q. q) p g.0 g.1 in
    gives_bind _ P (read_varint p) _ (varint_again p) λ a w.
    if_ind (Gives P) (ltb (length a.1.bytes) a.0) (λ t. tt) λ t. piece a.0 a.1 w (ltb-false (length a.1.bytes) a.0 t)
  where
    piece : (n : ℕ) (rest : Part) → Again (λ place. read_varint) n p rest → n ≤ length rest.bytes
        → AgainIn (λ place. read_delimited) (λ q. q) p (◌from◌ rest.at (take n rest.bytes)) (◌from◌ (rest.at + n) (drop n rest.bytes))
    piece n rest w h =
        let place = ap (λ (x : Part). x.at) w.is in
        let bytes = ap (λ (x : Part). x.bytes) w.is in
        let many : length rest.bytes ≡ length p.bytes - w.taken = ap length bytes ∙ length-drop w.taken p.bytes in
        record {
          start = w.taken;
          count = n;
          fits = omega (arith, w.fits);
          piece = rw (place, bytes);
          is = rw (place, bytes, drop-drop, add_assoc);
          again = λ s a bs e l.
              let room : n ≤ length (drop w.taken bs) = rw length-drop (omega arith) in
              body_after a n w.taken bs (w.again s a bs e) room;
        }

-- A value as it is read again. Of a body it goes by the bytes before it.
abbrev pub ValueAgain : {A : Type 0} → (ℕ → Part → Res (Got A)) → (Value → A) → Part → Value → Part → Type 0
ValueAgain read f p (varint n) rest = Again read (f (varint n)) p rest
ValueAgain read f p (fixed w n) rest = Again read (f (fixed w n)) p rest
ValueAgain read f p (body q) rest = AgainIn read (λ x. f (body x)) p q rest

-- by a reader that reads the same
same_again : (read to : ℕ → Part → Res (Got Value)) (p : Part) (v : Value) (rest : Part) → ((s a : ℕ) (bs : List ℕ) → to s (◌from◌ a bs) ≡ read s (◌from◌ a bs))
    → ValueAgain read (λ v. v) p v rest → ValueAgain to (λ v. v) p v rest
same_again read to p (varint n) rest h w = record { taken = w.taken; fits = w.fits; is = w.is; again = λ s a bs e. h s a bs ∙ w.again s a bs e }
same_again read to p (fixed k n) rest h w = record { taken = w.taken; fits = w.fits; is = w.is; again = λ s a bs e. h s a bs ∙ w.again s a bs e }
same_again read to p (body q) rest h w = record {
  start = w.start;
  count = w.count;
  fits = w.fits;
  piece = w.piece;
  is = w.is;
  again = λ s a bs e l. h s a bs ∙ w.again s a bs e l;
}

-- fixed numbers
fixed_after : (w a : ℕ) (bs : List ℕ) → w ≤ length bs → read_fixed w (◌from◌ a bs) ≡ got (fixed w (number 256 (take w bs))) (◌from◌ (a + w) (drop w bs))
unfolding read_fixed
fixed_after w a bs h = ap (map_got (λ (x : Part). fixed w (number 256 x.bytes))) (bytes-there a w (◌from◌ a bs) h)

fixed_again : (w : ℕ) (p : Part) → Gives (λ g. ValueAgain (λ place. read_fixed w) (λ v. v) p g.0 g.1) (read_fixed w p)
unfolding read_fixed read_bytes
fixed_again w p =
    let P : Got Value → Type 0 = λ g. ValueAgain (λ place. read_fixed w) (λ v. v) p g.0 g.1 in
    gives-map P (λ (x : Part). fixed w (number 256 x.bytes)) (read_bytes p.at w p)
    (if_ind (Gives (λ g. P (fixed w (number 256 g.0.bytes), g.1))) (ltb (length p.bytes) w) (λ t. tt) λ t. here (ltb-false (length p.bytes) w t))
  where
    here : w ≤ length p.bytes → Again (λ place. read_fixed w) (fixed w (number 256 (take w p.bytes))) p (◌from◌ (p.at + w) (drop w p.bytes))
    here h = record {
      taken = w;
      fits = h;
      is = refl;
      again = λ s a bs e. fixed_after w a bs (take_long w bs p.bytes h e) ∙ ap (λ (xs : List ℕ). got (fixed w (number 256 xs)) (◌from◌ (a + w) (drop w bs))) e;
    }

-- the reader by wire type
abbrev of_kind : ℕ → ℕ → Part → Res (Got Value)
of_kind kind place p = read_value place kind p

module _ (kind : ℕ) (p : Part) where
  abbrev AsKind : Got Value → Type 0
  AsKind g = ValueAgain (of_kind kind) (λ v. v) p g.0 g.1

  kind-varint : kind ≡ 0 → Gives (λ g. AsKind (varint g.0, g.1)) (read_varint p)
  kind-varint e = gives_weaken _ (λ g. AsKind (varint g.0, g.1)) (read_varint p) (varint_again p) λ g w. record {
    taken = w.taken;
    fits = w.fits;
    is = w.is;
    again = λ s a bs h. value-varint s (◌from◌ a bs) e ∙ ap (map_got varint) (w.again s a bs h);
  }

  kind-body : kind ≡ 2 → Gives (λ g. AsKind (body g.0, g.1)) (read_delimited p)
  kind-body e = gives_weaken _ (λ g. AsKind (body g.0, g.1)) (read_delimited p) (delimited_again p) λ g w. record {
    start = w.start;
    count = w.count;
    fits = w.fits;
    piece = w.piece;
    is = w.is;
    again = λ s a bs h l. value-body s (◌from◌ a bs) e ∙ ap (map_got body) (w.again s a bs h l);
  }

  kind-fixed8 : kind ≡ 1 → Gives AsKind (read_fixed 8 p)
  kind-fixed8 e = gives_weaken _ AsKind (read_fixed 8 p) (fixed_again 8 p) λ g w.
      same_again (λ place. read_fixed 8) (of_kind kind) p g.0 g.1 (λ s a bs. value-fixed8 s (◌from◌ a bs) e) w

  kind-fixed4 : kind ≡ 5 → Gives AsKind (read_fixed 4 p)
  kind-fixed4 e = gives_weaken _ AsKind (read_fixed 4 p) (fixed_again 4 p) λ g w.
      same_again (λ place. read_fixed 4) (of_kind kind) p g.0 g.1 (λ s a bs. value-fixed4 s (◌from◌ a bs) e) w

  value_again : (place : ℕ) → Gives AsKind (read_value place kind p)
  unfolding read_value
  value_again place =
      if_ind (Gives AsKind) (eqb kind VARINT) (λ t. gives-map AsKind varint (read_varint p) (kind-varint (eqb-true kind VARINT t))) λ t.
      if_ind (Gives AsKind) (eqb kind I64) (λ t. kind-fixed8 (eqb-true kind I64 t)) λ t.
      if_ind (Gives AsKind) (eqb kind LEN) (λ t. gives-map AsKind body (read_delimited p) (kind-body (eqb-true kind LEN t))) λ t.
      if_ind (Gives AsKind) (eqb kind I32) (λ t. kind-fixed4 (eqb-true kind I32 t)) λ t. tt

-- fields: a tag, and the value after it
module _ (p rest : Part) (tag : ℕ) (w : Again (λ place. read_varint) tag p rest) (f : is_field_number (tag / 8) ≡ true) where
  rest-bytes : rest.bytes ≡ drop w.taken p.bytes
  rest-bytes = ap (λ (x : Part). x.bytes) w.is

  rest-at : rest.at ≡ p.at + w.taken
  rest-at = ap (λ (x : Part). x.at) w.is

  rest-many : length rest.bytes + w.taken ≡ length p.bytes
  rest-many = let n : length rest.bytes ≡ length p.bytes - w.taken = ap length rest-bytes ∙ length-drop w.taken p.bytes in omega (arith, w.fits)

  tagged : (a : ℕ) (bs : List ℕ) → take w.taken bs ≡ take w.taken p.bytes
      → read_field (◌from◌ a bs) ≡ map_got (field (tag / 8)) (read_value a (tag % 8) (◌from◌ (a + w.taken) (drop w.taken bs)))
  tagged a bs e = field-value (◌from◌ a bs) (w.again a a bs e) f

  tagged-whole : (v : Value) (end : Part) → Again (of_kind (tag % 8)) v rest end → Again (λ place. read_field) (field (tag / 8) v) p end
  tagged-whole v end x = record {
    taken = w.taken + x.taken;
    fits = omega (arith, rest-many, x.fits);
    is = x.is ∙ rw (rest-at, rest-bytes, drop-drop, add_assoc);
    again = λ s a bs e.
        tagged a bs (take_fewer w.taken (w.taken + x.taken) bs p.bytes (omega arith) e)
        ∙ ap (map_got (field (tag / 8)))
        (x.again a (a + w.taken) (drop w.taken bs) (take_later w.taken x.taken bs p.bytes e ∙ ap (take x.taken) (sym rest-bytes)))
        ∙ rw (drop-drop, add_assoc);
  }

  tagged-body : (q end : Part) → AgainIn (of_kind (tag % 8)) (λ y. body y) rest q end → AgainIn (λ place. read_field) (λ y. field (tag / 8) (body y)) p q end
  tagged-body q end x = record {
    start = w.taken + x.start;
    count = x.count;
    fits = omega (arith, rest-many, x.fits);
    piece = x.piece ∙ rw (rest-at, rest-bytes, drop-drop, add_assoc);
    is = x.is ∙ rw (rest-at, rest-bytes, drop-drop, add_assoc w.taken x.start x.count, add_assoc p.at w.taken (x.start + x.count));
    again = λ s a bs e l.
        let room : x.start + x.count ≤ length (drop w.taken bs) = rw length-drop (omega arith) in
        tagged a bs (take_fewer w.taken (w.taken + x.start) bs p.bytes (omega arith) e)
        ∙ ap (map_got (field (tag / 8)))
        (x.again a (a + w.taken) (drop w.taken bs) (take_later w.taken x.start bs p.bytes e ∙ ap (take x.start) (sym rest-bytes)) room)
        ∙ rw (add_assoc w.taken x.start x.count, drop-drop x.start w.taken bs, drop-drop (x.start + x.count) w.taken bs, add_assoc a w.taken x.start, add_assoc a w.taken (x.start + x.count));
  }

  tagged-value : (v : Value) (end : Part) → ValueAgain (of_kind (tag % 8)) (λ v. v) rest v end → ValueAgain (λ place. read_field) (field (tag / 8)) p v end
  tagged-value (varint n) end x = tagged-whole (varint n) end x
  tagged-value (fixed k n) end x = tagged-whole (fixed k n) end x
  tagged-value (body q) end x = tagged-body q end x

pub field_again : (p : Part) → Gives (λ g. ValueAgain (λ place. read_field) (field g.0.number) p g.0.value g.1) (read_field p)
unfolding read_field
field_again p =
    let P : Got Field → Type 0 = λ g. ValueAgain (λ place. read_field) (field g.0.number) p g.0.value g.1 in
    gives_bind _ P (read_varint p) _ (varint_again p) λ a w.
    let value = read_value p.at (a.0 % 8) a.1 in
    if_ind (Gives P) (is_field_number (a.0 / 8)) (λ t. gives-map P (field (a.0 / 8)) value
    (gives_weaken _ (λ g. P (field (a.0 / 8) g.0, g.1)) value (value_again (a.0 % 8) a.1 p.at) λ g x. tagged-value p a.1 a.0 w t g.0 g.1 x)) λ t. tt

-- how far a field's bytes go by which it is read: to its end, or to its body
abbrev pub goes_by : WireValue → ℕ → ℕ
goes_by (wire.Varint n) next = next
goes_by (wire.Fixed w n) next = next
goes_by (wire.Body x) next = x.start

-- A field that the code has read in s at some offset: at every offset, and in every s' that begins as s does so far, the code would read it alike.
module _ (b : ℕ) (s s' : List ℕ) (at : ℕ) (many : length s' ≡ length s) (base : ℕ) (n next : ℕ) where
  kept-whole : (v : Value) → Again (λ place. read_field) (field n v) (rest_of b s at) (rest_of b s next) → take next s' ≡ take next s
      → read_field (rest_of base s' at) ≡ got (field n v) (rest_of base s' next)
  kept-whole v w e =
      let to : b + next ≡ b + at + w.taken = ap (λ (x : Part). x.at) w.is in
      let there : at + w.taken ≡ next = omega arith in
      let first : take (at + w.taken) s' ≡ take (at + w.taken) s = rw there e in
      w.again base (base + at) (drop at s') (take_later at w.taken s' s first) ∙ rw (drop-drop, add_assoc, there)

  kept-body : (p : Span) → AgainIn (λ place. read_field) (λ y. field n (body y)) (rest_of b s at) (part_between b s p.start p.end) (rest_of b s next)
      → Inside s (wire.Body p) → take p.start s' ≡ take p.start s
      → read_field (rest_of base s' at) ≡ got (field n (body (part_between base s' p.start p.end))) (rest_of base s' next)
  kept-body p w i e =
      let begin : b + p.start ≡ b + at + w.start = ap (λ (x : Part). x.at) w.piece in
      let start : p.start ≡ at + w.start = omega arith in
      let room : w.start + w.count ≤ length s - at = rw length-drop at w.fits in
      let whole : length (take (p.end - p.start) (drop p.start s)) ≡ p.end - p.start = length-take-le (p.end - p.start) (drop p.start s) (rw length-drop (omega (arith, i.1))) in
      let piece : length (take w.count (drop w.start (drop at s))) ≡ w.count = length-take-le w.count (drop w.start (drop at s)) (rw (length-drop, length-drop) (omega arith)) in
      let same : length (take (p.end - p.start) (drop p.start s)) ≡ length (take w.count (drop w.start (drop at s))) = ap (λ (x : Part). length x.bytes) w.piece in
      let count : p.end - p.start ≡ w.count = omega arith in
      let to : b + next ≡ b + at + (w.start + w.count) = ap (λ (x : Part). x.at) w.is in
      let end : next ≡ at + (w.start + w.count) = omega arith in
      let first : take (at + w.start) s' ≡ take (at + w.start) s = rw (sym start) e in
      let long : w.start + w.count ≤ length (drop at s') = rw length-drop (omega arith) in
      w.again base (base + at) (drop at s') (take_later at w.start s' s first) long
      ∙ rw (count, start, end, drop-drop w.start at s', drop-drop (w.start + w.count) at s', add_assoc base at w.start, add_assoc base at (w.start + w.count))

  kept-value : (v : WireValue) → read_field (rest_of b s at) ≡ got (field n (value_of b s v)) (rest_of b s next) → Inside s v
      → take (goes_by v next) s' ≡ take (goes_by v next) s
      → (read_field (rest_of base s' at) ≡ got (field n (value_of base s' v)) (rest_of base s' next)) × Inside s' v
  kept-value (wire.Varint k) e i h = (kept-whole (varint k) (gives-ok (λ g. ValueAgain (λ place. read_field) (field g.0.number) (rest_of b s at) g.0.value g.1) e (field_again (rest_of b s at))) h, tt)
  kept-value (wire.Fixed w k) e i h = (kept-whole (fixed w k) (gives-ok (λ g. ValueAgain (λ place. read_field) (field g.0.number) (rest_of b s at) g.0.value g.1) e (field_again (rest_of b s at))) h, tt)
  kept-value (wire.Body p) e i h =
      let w = gives-ok (λ g. ValueAgain (λ place. read_field) (field g.0.number) (rest_of b s at) g.0.value g.1) e (field_again (rest_of b s at)) in
      (kept-body p w i h, (i.0, omega (arith, i.1), i.2))

pub field_kept : (b : ℕ) (s s' : List ℕ) (at : ℕ) (x : Read code.Field) → FieldTold b s (read_field (rest_of b s at)) (Ok x) → length s' ≡ length s
    → take (goes_by x.value.value x.next) s' ≡ take (goes_by x.value.value x.next) s → (base : ℕ) → FieldTold base s' (read_field (rest_of base s' at)) (Ok x)
field_kept b s s' at x e many h base = kept-value b s s' at many base x.value.number x.next x.value.value e.0 e.1 h

-- at every offset
pub field_anywhere : (b : ℕ) (s : List ℕ) (at : ℕ) (x : Read code.Field) → FieldTold b s (read_field (rest_of b s at)) (Ok x) → (base : ℕ)
    → FieldTold base s (read_field (rest_of base s at)) (Ok x)
field_anywhere b s at x e = field_kept b s s at x e refl refl
