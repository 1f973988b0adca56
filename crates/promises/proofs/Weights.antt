-- What the fields of a message take of its bytes: two at least, and their bodies.
-- Assumes nothing.
use mathlib.Core.Path.{◌≡◌, refl}
use mathlib.Core.Bool.{Bool, true, false}
use mathlib.Core.List.{List, [], ◌∷◌}
use mathlib.Core.Option.{Option, none, some}
use Prim.Native.Nat.{ℕ, ◌+◌, ◌*◌, ◌/◌, ◌%◌, ◌≤◌, ◌<◌}
use native.Mathlib.Omega.{arith}
use borrow.Author.Tests.{eqb-true, ltb-false}
use lib.Dec.{eqb, ltb}
use lib.ListN.{length, length-take, length-drop}
use Rattle.std.specs.Prelude.{if◌then◌else◌}
use Rattle.foundation.specs.Choices.{if_some, IfSome}
use Rattle.foundation.specs.Results.{Part, Got}
use Rattle.foundation.proofs.ChoiceLaws.{if_ind}
use Rattle.foundation.proofs.ResultLaws.{Gives, gives_bind, gives_weaken, gives-map}
use Rattle.wire.specs.Wire.{Value, varint, fixed, body, Field, field, Message, VARINT, I64, LEN, I32, read_varint, read_bytes, read_delimited, read_fixed, read_value, is_field_number, read_field, cut}
use Rattle.wire.specs.Messages.{values, first_of, as_varint, as32, varint_of, index, bodies_of, cut_all, messages}
use Rattle.wire.proofs.Readers.{after_shorter, varint-after, bytes_after}
use Rattle.wire.proofs.Progress.{every-gives}
use Rattle.schema.specs.told.TypeSizes.{size_of_all}

-- a field's tag takes a byte at least, and so does its value, or its body's length
abbrev pub takes : Value → ℕ
takes (varint n) = 2
takes (fixed w n) = 2
takes (body p) = 2 + length p.bytes

-- of the fields of a message, and of values
abbrev pub weight : Message → ℕ
weight [] = 0
weight (f ∷ m) = takes f.value + weight m

abbrev pub weight_of : List Value → ℕ
weight_of [] = 0
weight_of (v ∷ vs) = takes v + weight_of vs

-- A message has no more of them than bytes.
bytes-weight : (place n : ℕ) (p : Part) → Gives (λ g. length g.0.bytes + length g.1.bytes ≤ length p.bytes) (read_bytes place n p)
unfolding read_bytes
bytes-weight place n p =
    if_ind (Gives (λ g. length g.0.bytes + length g.1.bytes ≤ length p.bytes)) (ltb (length p.bytes) n) (λ t. tt) λ t.
    let h = ltb-false (length p.bytes) n t in
    rw (length-take, length-drop) (omega arith)

delimited_weight : (p : Part) → Gives (λ g. 1 + length g.0.bytes + length g.1.bytes ≤ length p.bytes) (read_delimited p)
unfolding read_delimited
delimited_weight p =
    let P : Got Part → Type 0 = λ g. 1 + length g.0.bytes + length g.1.bytes ≤ length p.bytes in
    gives_bind _ P (read_varint p) _ (varint-after p) λ a q.
    gives_weaken _ P (read_bytes p.at a.0 a.1) (bytes-weight p.at a.0 a.1) λ g w. omega (arith, after_shorter q)

-- of a value that stands after its tag
abbrev Weighs : Part → Got Value → Type 0
Weighs p g = takes g.0 + length g.1.bytes ≤ 1 + length p.bytes

fixed-weight : (w : ℕ) (p : Part) → 1 ≤ w → Gives (Weighs p) (read_fixed w p)
unfolding read_fixed
fixed-weight w p h =
    let bytes = read_bytes p.at w p in
    gives-map (Weighs p) _ bytes (gives_weaken _ (λ g. 2 + length g.1.bytes ≤ 1 + length p.bytes) bytes (bytes_after p.at w p) λ g a. omega (arith, after_shorter a.1))

value-weight : (place type : ℕ) (p : Part) → Gives (Weighs p) (read_value place type p)
unfolding read_value
value-weight place type p =
    let P = Gives (Weighs p) in
    let number = gives_weaken _ (λ g. 2 + length g.1.bytes ≤ 1 + length p.bytes) (read_varint p) (varint-after p) λ g a. omega (arith, after_shorter a) in
    let delimited = gives_weaken _ (λ g. 2 + length g.0.bytes + length g.1.bytes ≤ 1 + length p.bytes) (read_delimited p) (delimited_weight p) λ g a. omega arith in
    if_ind P (eqb type VARINT) (λ t. gives-map (Weighs p) varint (read_varint p) number) λ t.
    if_ind P (eqb type I64) (λ t. fixed-weight 8 p (omega arith)) λ t.
    if_ind P (eqb type LEN) (λ t. gives-map (Weighs p) body (read_delimited p) delimited) λ t.
    if_ind P (eqb type I32) (λ t. fixed-weight 4 p (omega arith)) λ t. tt

abbrev FieldWeighs : Part → Got Field → Type 0
FieldWeighs p g = takes g.0.value + length g.1.bytes ≤ length p.bytes

field-weight : (p : Part) → Gives (FieldWeighs p) (read_field p)
unfolding read_field
field-weight p =
    gives_bind _ (FieldWeighs p) (read_varint p) _ (varint-after p) λ a q.
    let value = read_value p.at (a.0 % 8) a.1 in
    let weighs = gives_weaken _ (λ g. takes g.0 + length g.1.bytes ≤ length p.bytes) value (value-weight p.at (a.0 % 8) a.1) λ g w.
    omega (arith, after_shorter q) in
    if_ind (Gives (FieldWeighs p)) (is_field_number (a.0 / 8)) (λ t. gives-map (FieldWeighs p) (field (a.0 / 8)) value weighs) λ t. tt

pub cut-weight : (p : Part) → Gives (λ m. weight m ≤ length p.bytes) (cut p)
unfolding cut
cut-weight = every-gives read_field (λ p m. weight m ≤ length p.bytes) FieldWeighs (λ p. omega arith) field-weight λ p g m t h. omega arith

-- An embedded message weighs its field's two bytes and itself.
abbrev pub embedded : Message → ℕ
embedded m = 2 + weight m

abbrev parts_weight : List Part → ℕ
parts_weight [] = 0
parts_weight (p ∷ ps) = 2 + length p.bytes + parts_weight ps

bodies-weight : (vs : List Value) → parts_weight (bodies_of vs) ≤ weight_of vs
unfolding bodies_of
bodies-weight [] = omega arith
bodies-weight (varint n ∷ vs) = omega (arith, bodies-weight vs)
bodies-weight (fixed w n ∷ vs) = omega (arith, bodies-weight vs)
bodies-weight (body p ∷ vs) = omega (arith, bodies-weight vs)

cut_all-weight : (ps : List Part) → Gives (λ ms. size_of_all embedded ms ≤ parts_weight ps) (cut_all ps)
unfolding cut_all
cut_all-weight [] = omega arith
cut_all-weight (p ∷ ps) =
    let R : List Message → Type 0 = λ ms. size_of_all embedded ms ≤ parts_weight (p ∷ ps) in
    gives_bind _ R (cut p) _ (cut-weight p) λ m q. gives_bind _ R (cut_all ps) _ (cut_all-weight ps) λ ms r. omega arith

pub messages-weight : (k : ℕ) (m : Message) → Gives (λ ms. size_of_all embedded ms ≤ weight_of (values k m)) (messages k m)
unfolding messages
messages-weight k m =
    gives_weaken _ (λ ms. size_of_all embedded ms ≤ weight_of (values k m)) (cut_all (bodies_of (values k m))) (cut_all-weight (bodies_of (values k m))) λ ms h.
    omega (arith, bodies-weight (values k m))

pub many-weight : (ms : List Message) → 2 * length ms ≤ size_of_all embedded ms
many-weight [] = omega arith
many-weight (m ∷ ms) = omega (arith, many-weight ms)

-- A field that is there takes two bytes.
value_two : (v : Value) → 2 ≤ takes v
value_two (varint n) = omega arith
value_two (fixed w n) = omega arith
value_two (body p) = omega arith

pub index-weight : (k : ℕ) (m : Message) → IfSome (λ i. 2 ≤ weight_of (values k m)) (index k m)
unfolding index varint_of
index-weight k m = go (values k m)
  where
    there : {A : Type 0} (o : Option A) (n : ℕ) → 2 ≤ n → IfSome (λ i. 2 ≤ n) o
    there none n h = tt
    there (some a) n h = h

    go : (vs : List Value) → IfSome (λ i. 2 ≤ weight_of vs) (if_some (if_some (first_of vs) none as_varint) none as32)
    go [] = tt
    go (v ∷ vs) = there (if_some (as_varint v) none as32) (weight_of (v ∷ vs)) (omega (arith, value_two v))

-- Fields of up to four numbers weigh no more than the message.
abbrev only : ℕ → Field → ℕ
only k f = if eqb f.number k then takes f.value else 0

values-only : (k : ℕ) (f : Field) (m : Message) → weight_of (values k (f ∷ m)) ≡ only k f + weight_of (values k m)
unfolding values
values-only k f m = go (eqb f.number k)
  where
    go : (t : Bool) → weight_of (if t then f.value ∷ values k m else values k m) ≡ (if t then takes f.value else 0) + weight_of (values k m)
    go true = omega arith
    go false = omega arith

only_three : (a b c : ℕ) (f : Field) → a < b → b < c → only a f + only b f + only c f ≤ takes f.value
only_three a b c f h g = go (eqb f.number a) (eqb f.number b) (eqb f.number c) refl refl refl
  where
    n : ℕ
    n = f.number

    w : ℕ
    w = takes f.value

    go : (x y z : Bool) → eqb n a ≡ x → eqb n b ≡ y → eqb n c ≡ z → (if x then w else 0) + (if y then w else 0) + (if z then w else 0) ≤ w
    go true true z p q r = absurd (omega (arith, eqb-true n a p, eqb-true n b q))
    go true false true p q r = absurd (omega (arith, eqb-true n a p, eqb-true n c r))
    go true false false p q r = omega arith
    go false true true p q r = absurd (omega (arith, eqb-true n b q, eqb-true n c r))
    go false true false p q r = omega arith
    go false false true p q r = omega arith
    go false false false p q r = omega arith

-- of another number
only_other : (a d : ℕ) (f : Field) → a < d → eqb f.number d ≡ true → only a f ≡ 0
only_other a d f h q = go (eqb f.number a) refl
  where
    go : (x : Bool) → eqb f.number a ≡ x → (if x then takes f.value else 0) ≡ 0
    go true p = absurd (omega (arith, eqb-true f.number a p, eqb-true f.number d q))
    go false p = refl

only_four : (a b c d : ℕ) (f : Field) → a < b → b < c → c < d → only a f + only b f + only c f + only d f ≤ takes f.value
only_four a b c d f h g k = go (eqb f.number d) refl
  where
    go : (x : Bool) → eqb f.number d ≡ x → only a f + only b f + only c f + (if x then takes f.value else 0) ≤ takes f.value
    go true q = omega (arith, only_other a d f (omega arith) q, only_other b d f (omega arith) q, only_other c d f k q)
    go false q = omega (arith, only_three a b c f h g)

pub four_weight : (a b c d : ℕ) (m : Message) → a < b → b < c → c < d
    → weight_of (values a m) + weight_of (values b m) + weight_of (values c m) + weight_of (values d m) ≤ weight m
unfolding values
four_weight a b c d [] h g k = omega arith
four_weight a b c d (f ∷ m) h g k =
    omega (
      arith,
      values-only a f m,
      values-only b f m,
      values-only c f m,
      values-only d f m,
      only_four a b c d f h g k,
      four_weight a b c d m h g k,
    )

pub three_weight : (a b c : ℕ) (m : Message) → a < b → b < c → weight_of (values a m) + weight_of (values b m) + weight_of (values c m) ≤ weight m
three_weight a b c m h g = omega (arith, four_weight a b c (c + 1) m h g (omega arith))

pub two_weight : (a b : ℕ) (m : Message) → a < b → weight_of (values a m) + weight_of (values b m) ≤ weight m
two_weight a b m h = omega (arith, three_weight a b (b + 1) m h (omega arith))

pub one-weight : (a : ℕ) (m : Message) → weight_of (values a m) ≤ weight m
one-weight a m = omega (arith, two_weight a (a + 1) m (omega arith))
