-- The bodies of a field one after the other, and the messages in them.
-- Assumes nothing.
use mathlib.Core.Path.{◌≡◌, refl, ap, sym, ◌∙◌, subst}
use mathlib.Core.Bool.{Bool, true, false}
use mathlib.Core.List.{List, [], ◌∷◌}
use mathlib.Core.Option.{some}
use Prim.Native.Nat.{ℕ, ◌+◌, ◌-◌, ◌%◌, ◌/◌, ◌≤◌, ◌<◌}
use native.Mathlib.Nat.{zero-add}
use native.Mathlib.Omega.{arith}
use borrow.Author.Tests.{eqb-true, eqb-false, ltb-false}
use lib.Dec.{eqb, ltb}
use lib.ListN.{length, take, drop, length-drop}
use lib.Seq.{length-take-le}
use Rattle.std.specs.Prelude.{if◌then◌else◌}
use Rattle.foundation.specs.Results.{Res, ok, ◌>>=◌, Part, ◌from◌, Got}
use Rattle.foundation.proofs.ChoiceLaws.{if_ind, drop-take}
use Rattle.foundation.proofs.ResultLaws.{Gives, gives-ok, gives_bind, gives-map}
use Rattle.wire.specs.Wire.{
  VARINT,
  I64,
  LEN,
  I32,
  Value,
  varint,
  fixed,
  body,
  Field,
  field,
  read_varint,
  read_bytes,
  read_delimited,
  read_fixed,
  read_value,
  is_field_number,
  read_field,
  Message,
  cut,
}
use Rattle.wire.specs.Messages.{values, cut_option, message, bodies_of, cut_all, messages}
use Rattle.wire.specs.told.WireTold.{rest_of, part_between, value_of, FieldTold, piece_of}
use Rattle.messages.specs.told.Asked.{CheckedTold, piece_told, PieceInside, PieceAfter, PieceBegins, BytesTold, EmbeddedTold, bodies, piece_if, NextIs, NextBodyTold}
use Rattle.std.specs.Prelude.{Option, Some, None, Result, Ok, Err}
use Rattle.foundation.specs.declared.Span.{Span}
use Rattle.wire.specs.declared.WireError.{WireError}
use Rattle.wire.specs.declared.WireValue.{WireValue}
use Rattle.wire.specs.declared.WireValue.TheVariants as wire
use Rattle.wire.specs.declared.Field as code
use Rattle.foundation.specs.declared.Read.{Read}
use Rattle.wire.proofs.Later.{Later, gives_any, field-later}
use Rattle.wire.proofs.WalkLaws.{whole, field-inside, Leads, leads-next, leads-never, leads-end, values-found, values-passed}

-- where a body ends the field ends
abbrev Ends : Value → Part → Type 0
Ends (varint n) rest = Unit {0}
Ends (fixed w n) rest = Unit {0}
Ends (body q) rest = rest.at ≡ q.at + length q.bytes

bytes-end : (place n : ℕ) (p : Part) → Gives (λ g. g.1.at ≡ g.0.at + length g.0.bytes) (read_bytes place n p)
unfolding read_bytes
bytes-end place n p =
    if_ind (Gives (λ g. g.1.at ≡ g.0.at + length g.0.bytes)) (ltb (length p.bytes) n) (λ t. tt) λ t.
    rw (length-take-le n p.bytes (ltb-false (length p.bytes) n t))

delimited_end : (p : Part) → Gives (λ g. g.1.at ≡ g.0.at + length g.0.bytes) (read_delimited p)
unfolding read_delimited
delimited_end p =
    gives_bind (λ a. Unit {0}) _ (read_varint p) _ (gives_any (λ a. Unit {0}) (read_varint p) λ a. tt) λ a q. bytes-end p.at a.0 a.1

fixed-ends : (w : ℕ) (p : Part) → Gives (λ g. Ends g.0 g.1) (read_fixed w p)
unfolding read_fixed
fixed-ends w p = gives-map (λ g. Ends g.0 g.1) _ (read_bytes p.at w p) (gives_any _ (read_bytes p.at w p) λ a. tt)

value-end : (place type : ℕ) (p : Part) → Gives (λ g. Ends g.0 g.1) (read_value place type p)
unfolding read_value
value-end place type p =
    let P : Got Value → Type 0 = λ g. Ends g.0 g.1 in
    if_ind (Gives P) (eqb type VARINT) (λ t. gives-map P varint (read_varint p) (gives_any _ (read_varint p) λ a. tt)) λ t.
    if_ind (Gives P) (eqb type I64) (λ t. fixed-ends 8 p) λ t.
    if_ind (Gives P) (eqb type LEN) (λ t. gives-map P body (read_delimited p) (delimited_end p)) λ t.
    if_ind (Gives P) (eqb type I32) (λ t. fixed-ends 4 p) λ t. tt

field_end : (p : Part) → Gives (λ g. Ends g.0.value g.1) (read_field p)
unfolding read_field
field_end p =
    gives_bind (λ a. Unit {0}) (λ g. Ends g.0.value g.1) (read_varint p) _ (gives_any (λ a. Unit {0}) (read_varint p) λ a. tt) λ a q.
    let value = read_value p.at (a.0 % 8) a.1 in
    let P : Got Field → Type 0 = λ g. Ends g.0.value g.1 in
    if_ind (Gives P) (is_field_number (a.0 / 8)) (λ t. gives-map P (field (a.0 / 8)) value (value-end p.at (a.0 % 8) a.1)) λ t. tt

module _ (base : ℕ) (s : List ℕ) (at : ℕ) (x : Read code.Field) (e : FieldTold base s (read_field (rest_of base s at)) (Ok x)) {p : Span}
    (g : x.value.value ≡ wire.Body p) where
  -- the field, with its body
  bodied : FieldTold base s (read_field (rest_of base s at)) (Ok (record { value = record { number = x.value.number; value = wire.Body p }; next = x.next }))
  bodied =
      subst
      (λ (v : WireValue). FieldTold base s (read_field (rest_of base s at)) (Ok (record { value = record { number = x.value.number; value = v }; next = x.next })))
      g
      e

  pub body_next : p.end ≡ x.next
  body_next =
      let ends = gives-ok (λ q. Ends q.0.value q.1) bodied.0 (field_end (rest_of base s at)) in
      let fits : p.end - p.start ≤ length (drop p.start s) = rw length-drop (omega (arith, bodied.1.0, bodied.1.1)) in
      let same : base + x.next ≡ base + p.start + (p.end - p.start) = ends
      ∙ ap (λ (n : ℕ). base + p.start + n) (length-take-le (p.end - p.start) (drop p.start s) fits) in
      omega (arith, bodied.1.0)

  -- a body begins after the place where its field does
  body-later : at < p.start
  body-later =
      let h = gives-ok (λ q. Later (base + at) q.0.value) bodied.0 (field-later (rest_of base s at)) in
      omega arith

-- what the code makes of a field
of-value : (v : WireValue) {p : Span} → piece_of v ≡ Some p → v ≡ wire.Body p
of-value (wire.Varint n) e = cc
of-value (wire.Fixed w n) e = cc
of-value (wire.Body x) {p} e = let q : x ≡ p = cc in ap wire.Body q

piece-found : (k n : ℕ) (v : WireValue) {p : Span} → piece_if k n v ≡ Some p → (n ≡ k) × (v ≡ wire.Body p)
piece-found k n v {p} = go (eqb n k) refl
  where
    go : (t : Bool) → eqb n k ≡ t → (if t then piece_of v else None) ≡ Some p → (n ≡ k) × (v ≡ wire.Body p)
    go true t e = (eqb-true n k t, of-value v e)
    go false t e = let z : ◌≡◌ {A = ℕ} 0 1 = cc in absurd (omega arith)

bodies-found : (k : ℕ) {n : ℕ} (q : Part) (rest : Message) → n ≡ k → bodies k (field n (body q) ∷ rest) ≡ q ∷ bodies k rest
unfolding bodies_of
bodies-found k q rest h = rw (values-found k (body q) rest h)

no_body : (base : ℕ) (s : List ℕ) (v : WireValue) (vs : List Value) → piece_of v ≡ None
    → bodies_of (value_of base s v ∷ vs) ≡ bodies_of vs
unfolding bodies_of
no_body base s (wire.Varint n) vs e = refl
no_body base s (wire.Fixed w n) vs e = refl
no_body base s (wire.Body x) vs e = let z : ◌≡◌ {A = ℕ} 0 1 = cc in absurd (omega arith)

bodies-passed : (base : ℕ) (s : List ℕ) (k n : ℕ) (v : WireValue) (rest : Message) → piece_if k n v ≡ None
    → bodies k (field n (value_of base s v) ∷ rest) ≡ bodies k rest
bodies-passed base s k n v rest = go (eqb n k) refl
  where
    go : (t : Bool) → eqb n k ≡ t → (if t then piece_of v else None) ≡ None
        → bodies k (field n (value_of base s v) ∷ rest) ≡ bodies k rest
    go true t e = ap bodies_of (values-found k (value_of base s v) rest (eqb-true n k t)) ∙ no_body base s v (values k rest) e
    go false t e = ap bodies_of (values-passed k (value_of base s v) rest (eqb-false n k t))

-- the walk to the next body: from the place i on the bodies are those from the place `at` on
abbrev pub BodiesLeft : ℕ → ℕ → List ℕ → ℕ → ℕ → Type 0
BodiesLeft k base s at i = Leads (λ m rest. bodies k m ≡ bodies k rest) (rest_of base s at) (rest_of base s i)

module _ (k base : ℕ) (s : List ℕ) (at : ℕ) where
  pub bodies-start : BodiesLeft k base s at at
  bodies-start m w = (m, w, refl)

  module _ (i : ℕ) (o : BodiesLeft k base s at i) where
    pub bodies-end : length s ≤ i → NextBodyTold base s k at None
    unfolding bodies_of values
    bodies-end h = record { is = leads-end (λ m rest. bodies k m ≡ bodies k rest) (rest_of base s at) base s i o h; inside = tt; later = tt; begins = tt }

    module _ (error : WireError) (e : FieldTold base s (read_field (rest_of base s i)) (Err error)) (h : i < length s) where
      pub bodies-never : NextBodyTold base s k at None
      bodies-never = record {
        is = λ m w. leads-never (rest_of base s at) base s i error e h (λ m rest. bodies k m ≡ bodies k rest) o m w;
        inside = tt;
        later = tt;
        begins = tt;
      }

    module _ (x : Read code.Field) (e : FieldTold base s (read_field (rest_of base s i)) (Ok x)) (h : i < length s) {r : Option Span}
        (q : r ≡ piece_if k x.value.number x.value.value) where
      pub bodies-on : r ≡ None → BodiesLeft k base s at x.next
      bodies-on z =
          leads-next (rest_of base s at) base s i x e h (λ m rest. bodies k m ≡ bodies k rest) (λ m rest. bodies k m ≡ bodies k rest) o
          λ m rest c. c ∙ bodies-passed base s k x.value.number x.value.value rest (sym q ∙ z)

      pub bodies-here : {p : Span} → at ≤ i → r ≡ Some p → NextBodyTold base s k at (Some p)
      bodies-here {p} l z =
          let f = piece-found k x.value.number x.value.value (sym q ∙ z) in
          let last = body_next base s i x e f.1 in
          let to = field-inside base s i x e (omega arith) in
          let R : Message → Message → Type 0 = λ m rest. bodies k m ≡ bodies k rest in
          let S : Message → Message → Type 0 = λ m rest. bodies k m ≡ part_between base s p.start p.end ∷ bodies k rest in
          let on = leads-next (rest_of base s at) base s i x e h R S o λ m rest c.
          c ∙ ap (λ (v : WireValue). bodies k (field x.value.number (value_of base s v) ∷ rest)) f.1
          ∙ bodies-found k (part_between base s p.start p.end) rest f.0 in
          record {
            is = subst (λ (u : ℕ). Leads S (rest_of base s at) (rest_of base s u)) (sym last) on;
            inside = (bodied base s i x e f.1).1;
            later = omega arith;
            begins = omega (arith, body-later base s i x e f.1);
          }

-- of a piece by the places asked from
next_is : (k base : ℕ) (s : List ℕ) (m rest : Message) → bodies k m ≡ bodies k rest → (r : Option Span) → NextIs base s k rest r → NextIs base s k m r
next_is k base s m rest e (Some p) n = (n.0, n.1, e ∙ n.2)
next_is k base s m rest e None n = e ∙ n

after_earlier : (at i : ℕ) → at ≤ i → (r : Option Span) → PieceAfter i r → PieceAfter at r
after_earlier at i h (Some p) q = omega arith
after_earlier at i h None q = tt

begins_earlier : (at i : ℕ) → at ≤ i → (r : Option Span) → PieceBegins i r → PieceBegins at r
begins_earlier at i h (Some p) q = omega arith
begins_earlier at i h None q = tt

pub next-on : (k base : ℕ) (s : List ℕ) (at i : ℕ) → at ≤ i → BodiesLeft k base s at i → {r : Option Span} → NextBodyTold base s k i r
    → NextBodyTold base s k at r
next-on k base s at i h o {r} t = record {
  is = λ m w. next_is k base s m (o m w).0 (o m w).2 r (t.is (o m w).0 (o m w).1);
  inside = t.inside;
  later = after_earlier at i h r t.later;
  begins = begins_earlier at i h r t.begins;
}

-- a part of a slice from its start to an end, from a place on
pub part-is : (base : ℕ) (s : List ℕ) (a e : ℕ) → a ≤ e → rest_of base (take e s) a ≡ part_between base s a e
part-is base s a e h =
    let q : a + (e - a) ≡ e = omega arith in
    ap (λ (bs : List ℕ). ◌from◌ (base + a) bs) (ap (λ (n : ℕ). drop a (take n s)) (sym q) ∙ drop-take a (e - a) s)

pub checked_part : (base : ℕ) (s : List ℕ) (a e : ℕ) (c : Result Unit WireError) → a ≤ e → CheckedTold (cut (rest_of base (take e s) a)) c
    → CheckedTold (cut (part_between base s a e)) c
checked_part base s a e c h t = subst (λ (p : Part). CheckedTold (cut p) c) (part-is base s a e h) t

-- a part of the decoded bytes, handed on with the place where it begins
pub checked_at : (s : List ℕ) (a e : ℕ) (c : Result Unit WireError) → CheckedTold (cut (◌from◌ a (take (e - a) (drop a s)))) c → CheckedTold (cut (part_between 0 s a e)) c
checked_at s a e c t = subst (λ (n : ℕ). CheckedTold (cut (◌from◌ n (take (e - a) (drop a s)))) c) (sym (zero-add a)) t

-- a part that is handed on by itself
module _ (base : ℕ) (s : List ℕ) (x : Span) {b : ℕ} {bytes : List ℕ} (e : (b ≡ base + x.start) × (bytes ≡ take (x.end - x.start) (drop x.start s))) where
  pub part_told : ◌from◌ b bytes ≡ part_between base s x.start x.end
  part_told = rw (e.0, e.1)

  pub checked_in : (c : Result Unit WireError) → CheckedTold (cut (◌from◌ b bytes)) c → CheckedTold (cut (part_between base s x.start x.end)) c
  checked_in c t = subst (λ (p : Part). CheckedTold (cut p) c) part_told t

-- the messages of a list: what is checked from a place on holds of all of them
abbrev pub Cutting : ℕ → ℕ → List ℕ → ℕ → Type 0
Cutting k base s at =
    Leads (λ m rest. (c : Result Unit WireError) → CheckedTold (cut_all (bodies k rest)) c → CheckedTold (messages k m) c) (◌from◌ base s) (rest_of base s at)

cut-one : (p : Part) (ps : List Part) {inner : Message} (c : Result Unit WireError) → cut p ≡ ok inner → CheckedTold (cut_all ps) c
    → CheckedTold (cut_all (p ∷ ps)) c
unfolding cut_all
cut-one p ps {inner} (Ok u) e (ms, w) = (inner ∷ ms, rw (e, w))
cut-one p ps (Err error) e w = rw (e, w)

cut_none_of : (p : Part) (ps : List Part) (error : WireError) → CheckedTold (cut p) (Err error) → CheckedTold (cut_all (p ∷ ps)) (Err error)
unfolding cut_all
cut_none_of p ps error w = rw w

module _ (k base : ℕ) (s : List ℕ) where
  pub cutting-start : Cutting k base s 0
  unfolding messages
  cutting-start m w = (m, ap cut (whole base s) ∙ w, λ c h. h)

  module _ (at : ℕ) (o : Cutting k base s at) where
    module _ {x : Option Span} (t : NextBodyTold base s k at x) where
      here : {y : Option Span} → x ≡ y → (m : Message) → cut (rest_of base s at) ≡ ok m → NextIs base s k m y
      here g m w = subst (NextIs base s k m) g (t.is m w)

      pub piece-in : {p : Span} → x ≡ Some p → (p.start ≤ p.end) × (p.end ≤ length s) × (0 < p.start) × (at < p.end)
      piece-in g = let i = subst (PieceInside s) g t.inside in (i.0, i.1, i.2, subst (PieceAfter at) g t.later)

      pub cutting-none : x ≡ None → (m : Message) → cut (◌from◌ base s) ≡ ok m → CheckedTold (messages k m) (Ok tt)
      unfolding cut_all
      cutting-none g m w = let l = o m w in l.2 (Ok tt) ([], ap cut_all (here g l.0 l.1))

      module _ {p : Span} (g : x ≡ Some p) {c : Result Unit WireError} (d : CheckedTold (cut (part_between base s p.start p.end)) c) where
        pub cutting-refused : {error : WireError} → c ≡ Err error → (m : Message) → cut (◌from◌ base s) ≡ ok m
            → CheckedTold (messages k m) (Err error)
        cutting-refused {error} q m w =
            let l = o m w in
            let n = here g l.0 l.1 in
            let r = cut_none_of (part_between base s p.start p.end) (bodies k n.0) error (subst (CheckedTold (cut (part_between base s p.start p.end))) q d) in
            l.2 (Err error) (subst (λ (ps : List Part). CheckedTold (cut_all ps) (Err error)) (sym n.2) r)

        pub cutting-next : c ≡ Ok tt → Cutting k base s p.end
        cutting-next q m w =
            let l = o m w in
            let n = here g l.0 l.1 in
            let inner = subst (CheckedTold (cut (part_between base s p.start p.end))) q d in
            (n.0, n.1, λ c h. l.2 c (subst (λ (ps : List Part). CheckedTold (cut_all ps) c) (sym n.2) (cut-one (part_between base s p.start p.end) (bodies k n.0) c inner.1 h)))

-- the message in a field
module _ (k base : ℕ) (s : List ℕ) {x : Option Span} (t : BytesTold base s k x) where
  pub message_none : x ≡ None → EmbeddedTold base s k (Ok None)
  unfolding message
  message_none g = record { is = λ m w. ap cut_option (t.is m w ∙ ap (piece_told base s) g); inside = tt }

  module _ {p : Span} (g : x ≡ Some p) where
    pub message-in : (p.start ≤ p.end) × (p.end ≤ length s) × (0 < p.start)
    message-in = subst (PieceInside s) g t.inside

    there : (m : Message) → cut (◌from◌ base s) ≡ ok m → message k m ≡ cut_option (some (part_between base s p.start p.end))
    unfolding message
    there m w = ap cut_option (t.is m w ∙ ap (piece_told base s) g)

    module _ {c : Result Unit WireError} (d : CheckedTold (cut (part_between base s p.start p.end)) c) where
      pub message-cut : c ≡ Ok tt → EmbeddedTold base s k (Ok (Some p))
      message-cut q =
          let inner = subst (CheckedTold (cut (part_between base s p.start p.end))) q d in
          record { is = λ m w. (inner.0, inner.1, there m w ∙ ap (λ (r : Res Message). r >>= λ i. ok (some i)) inner.1); inside = message-in }

      pub message-refused : {error : WireError} → c ≡ Err error → EmbeddedTold base s k (Err error)
      message-refused q =
          let inner = subst (CheckedTold (cut (part_between base s p.start p.end))) q d in
          record { is = λ m w. there m w ∙ ap (λ (r : Res Message). r >>= λ i. ok (some i)) inner; inside = tt }
