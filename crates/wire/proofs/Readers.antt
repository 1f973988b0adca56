-- What the readers give of a part, whatever stands in it: numbers below 2^64, bodies that are pieces of it, and the rest of it after
-- at least a byte.
-- Assumes nothing.
use mathlib.Core.Path.{◌≡◌, refl, ap, ◌∙◌}
use mathlib.Core.List.{List, [], ◌∷◌}
use Prim.Native.Nat.{ℕ, zero, suc, ◌+◌, ◌*◌, ◌/◌, ◌%◌, ◌^◌, ◌≤◌, ◌<◌}
use native.Mathlib.Nat.{add-zero, add_assoc, pow-suc, one-le-pow}
use native.Mathlib.Omega.{arith}
use borrow.Author.Tests.{ltb-false, lt-ltb, le-ltb}
use lib.Dec.{eqb, ltb}
use lib.ListN.{length, take, drop, length-drop, length-take}
use lib.Seq.{drop-drop, take_all, take-take}
use Rattle.foundation.specs.Results.{Res, refused, Part, ◌from◌, Got, got, past_its_message}
use Rattle.foundation.specs.Digits.{number}
use Rattle.foundation.proofs.ChoiceLaws.{if_ind}
use Rattle.foundation.proofs.ResultLaws.{Gives, gives_bind, gives_weaken, gives-map, gives_both}
use Rattle.wire.specs.Wire.{
  group,
  groups_from,
  read_varint,
  read_bytes,
  read_delimited,
  Value,
  varint,
  fixed,
  body,
  read_fixed,
  read_value,
  VARINT,
  I64,
  LEN,
  I32,
  Field,
  field,
  is_field_number,
  read_field,
}

-- q is the rest of p after some of its bytes, at least m
pub record After (m : ℕ) (p q : Part) : Type 0 where
  pub taken : ℕ
  pub least : m ≤ taken
  pub fits : taken ≤ length p.bytes
  pub is : q ≡ ◌from◌ (p.at + taken) (drop taken p.bytes)

-- q is some of the bytes of p, in one piece
pub record PieceOf (p q : Part) : Type 0 where
  pub start : ℕ
  pub count : ℕ
  pub fits : start + count ≤ length p.bytes
  pub is : q ≡ ◌from◌ (p.at + start) (take count (drop start p.bytes))

-- the rest: where it begins, how much it is, and the rest of a rest
after-at : {m : ℕ} {p q : Part} (a : After m p q) → q.at ≡ p.at + a.taken
after-at a = ap (λ (x : Part). x.at) a.is

after-bytes : {m : ℕ} {p q : Part} (a : After m p q) → q.bytes ≡ drop a.taken p.bytes
after-bytes a = ap (λ (x : Part). x.bytes) a.is

pub after-length : {m : ℕ} {p q : Part} (a : After m p q) → length q.bytes + a.taken ≡ length p.bytes
after-length a = rw (after-bytes a, length-drop) (omega (arith, a.fits))

pub after_shorter : {m : ℕ} {p q : Part} → After m p q → length q.bytes + m ≤ length p.bytes
after_shorter a = omega (arith, after-length a, a.least)

pub after_weaken : {k m : ℕ} {p q : Part} → k ≤ m → After m p q → After k p q
after_weaken h a = record { taken = a.taken; least = omega arith; fits = a.fits; is = a.is }

pub after_trans : {m n : ℕ} {p q r : Part} → After m p q → After n q r → After (m + n) p r
after_trans a b = record {
  taken = a.taken + b.taken;
  least = omega arith;
  fits = omega (arith, after-length a);
  is = b.is ∙ rw (after-at a, after-bytes a, drop-drop, add_assoc);
}

pub after_then : {m n : ℕ} {p q r : Part} → After m p q → After n q r → After m p r
after_then a b = after_weaken (omega arith) (after_trans a b)

-- a piece: how much it is, and the piece of a piece
pub within-length : {p q : Part} (w : PieceOf p q) → length q.bytes ≡ w.count
within-length w = rw (ap (λ (x : Part). x.bytes) w.is, length-take, length-drop) (omega (arith, w.fits))

pub within_shorter : {p q : Part} → PieceOf p q → length q.bytes ≤ length p.bytes
within_shorter w = omega (arith, within-length w, w.fits)

piece_of_front : (s n k : ℕ) (l : List ℕ) → s + n ≤ k → take n (drop s (take k l)) ≡ take n (drop s l)
piece_of_front zero n k l h = take-take n k l (omega arith)
piece_of_front (suc s) n zero l h = absurd (omega arith)
piece_of_front (suc s) n (suc k) [] h = refl
piece_of_front (suc s) n (suc k) (b ∷ l) h = piece_of_front s n k l (omega arith)

pub within_trans : {p q r : Part} → PieceOf p q → PieceOf q r → PieceOf p r
within_trans {p} v w =
    let place = ap (λ (x : Part). x.at) v.is in
    let bytes = ap (λ (x : Part). x.bytes) v.is in
    let inside : w.start + w.count ≤ v.count = omega (arith, w.fits, within-length v) in
    let piece = piece_of_front w.start w.count v.count (drop v.start p.bytes) inside in
    record {
      start = v.start + w.start;
      count = w.count;
      fits = omega (arith, v.fits);
      is = w.is ∙ rw (place, bytes, piece, drop-drop, add_assoc);
    }

-- what is left of a part is a piece of it
pub after-within : {m : ℕ} {p q : Part} → After m p q → PieceOf p q
after-within {p} {q} a =
    let rest = drop a.taken p.bytes in
    let all : length rest ≤ length q.bytes = rw length-drop (omega (arith, after-length a)) in
    record {
      start = a.taken;
      count = length q.bytes;
      fits = omega (arith, after-length a);
      is = a.is ∙ rw (take_all (length q.bytes) rest all);
    }

-- of a part that begins behind the first a bytes of s, and s at offset b: so does what is left of it
pub after-from : {m : ℕ} {q : Part} (b a : ℕ) (s : List ℕ) (r : After m (◌from◌ (b + a) (drop a s)) q)
    → q ≡ ◌from◌ (b + (a + r.taken)) (drop (a + r.taken) s)
after-from b a s r = r.is ∙ rw (drop-drop, add_assoc)

-- varints
after-byte : (a b : ℕ) (bs : List ℕ) → After 1 (◌from◌ a (b ∷ bs)) (◌from◌ (a + 1) bs)
after-byte a b bs = record { taken = 1; least = omega arith; fits = omega arith; is = refl }

groups_after : (s k a : ℕ) (bs : List ℕ) → Gives (λ g. After 1 (◌from◌ a bs) g.1) (groups_from s k a bs)
unfolding groups_from
groups_after s k a [] = tt
groups_after s zero a (b ∷ bs) = tt
groups_after s (suc k) a (b ∷ bs) =
    let P : Got (List ℕ) → Type 0 = λ g. After 1 (◌from◌ a (b ∷ bs)) g.1 in
    let more = groups_from s k (a + 1) bs in
    let longer = gives_weaken _ P more (groups_after s k (a + 1) bs) λ g q. after_then (after-byte a b bs) q in
    if_ind (Gives P) (ltb b 128) (λ t. after-byte a b bs) λ t. gives-map P (λ gs. group k b ∷ gs) more longer

-- there is no group where no byte is allowed
groups_of_none : (P : Got (List ℕ) → Type 0) (s a : ℕ) (bs : List ℕ) → Gives P (groups_from s 0 a bs)
unfolding groups_from
groups_of_none P s a [] = tt
groups_of_none P s a (b ∷ bs) = tt

groups_below : (s k a : ℕ) (bs : List ℕ) → Gives (λ g. number 128 g.0 < 2 * 128 ^ k) (groups_from s (suc k) a bs)
unfolding groups_from
groups_below s k a [] = tt
groups_below s zero a (b ∷ bs) =
    let P : Got (List ℕ) → Type 0 = λ g. number 128 g.0 < 2 * 128 ^ 0 in
    let more = groups_from s 0 (a + 1) bs in
    if_ind (Gives P) (ltb b 128) (λ t. omega arith) λ t. gives-map P (λ gs. b % 2 ∷ gs) more (groups_of_none _ s (a + 1) bs)
groups_below s (suc k) a (b ∷ bs) =
    let P : Got (List ℕ) → Type 0 = λ g. number 128 g.0 < 2 * 128 ^ suc k in
    let more = groups_from s (suc k) (a + 1) bs in
    let Q : Got (List ℕ) → Type 0 = λ g. number 128 (b % 128 ∷ g.0) < 2 * 128 ^ suc k in
    let longer = gives_weaken _ Q more (groups_below s k (a + 1) bs) λ g h. rw pow-suc (omega arith) in
    let one : number 128 (b % 128 ∷ []) < 2 * 128 ^ suc k = rw pow-suc (omega (arith, one-le-pow k 128 (omega arith))) in
    if_ind (Gives P) (ltb b 128) (λ t. one) λ t. gives-map P (λ gs. b % 128 ∷ gs) more longer

module _ (p : Part) where
  of-groups : (P : Got ℕ → Type 0) → Gives (λ g. P (number 128 g.0, g.1)) (groups_from p.at 10 p.at p.bytes)
      → Gives P (read_varint p)
  unfolding read_varint
  of-groups P = gives-map P (number 128) (groups_from p.at 10 p.at p.bytes)

  pub varint-after : Gives (λ g. After 1 p g.1) (read_varint p)
  varint-after = of-groups (λ g. After 1 p g.1) (groups_after p.at 10 p.at p.bytes)

  pub varint-below : Gives (λ g. g.0 < 2 ^ 64) (read_varint p)
  varint-below = of-groups (λ g. g.0 < 2 ^ 64) (groups_below p.at 9 p.at p.bytes)

-- the bytes that are asked for, where they are all there, and where they run past the message
pub bytes-there : (place n : ℕ) (p : Part) → n ≤ length p.bytes
    → read_bytes place n p ≡ got (◌from◌ p.at (take n p.bytes)) (◌from◌ (p.at + n) (drop n p.bytes))
unfolding read_bytes
bytes-there place n p h = rw (le-ltb (length p.bytes) n h)

pub bytes_past : (place n : ℕ) (p : Part) → length p.bytes < n → read_bytes place n p ≡ refused past_its_message place
unfolding read_bytes
bytes_past place n p h = rw (lt-ltb (length p.bytes) n h)

front : (n : ℕ) (p : Part) → n ≤ length p.bytes → PieceOf p (◌from◌ p.at (take n p.bytes))
front n p h = record { start = 0; count = n; fits = omega arith; is = rw add-zero }

pub bytes_after : (place n : ℕ) (p : Part) → Gives (λ g. PieceOf p g.0 × After n p g.1) (read_bytes place n p)
unfolding read_bytes
bytes_after place n p =
    if_ind (Gives (λ g. PieceOf p g.0 × After n p g.1)) (ltb (length p.bytes) n) (λ t. tt) λ t.
    let h = ltb-false (length p.bytes) n t in
    (front n p h, record { taken = n; least = omega arith; fits = h; is = refl })

pub delimited_after : (p : Part) → Gives (λ g. PieceOf p g.0 × After 1 p g.1) (read_delimited p)
unfolding read_delimited
delimited_after p =
    let P : Got Part → Type 0 = λ g. PieceOf p g.0 × After 1 p g.1 in
    gives_bind _ P (read_varint p) _ (varint-after p) λ a q.
    gives_weaken _ P (read_bytes p.at a.0 a.1) (bytes_after p.at a.0 a.1) λ g w.
    (within_trans (after-within q) w.0, after_then q w.1)

-- what is known of a value that was read in a part
abbrev pub ReadIn : Part → Value → Type 0
ReadIn p (varint n) = n < 2 ^ 64
ReadIn p (fixed w n) = Unit {0}
ReadIn p (body q) = PieceOf p q

pub read_in_within : {p q : Part} → PieceOf p q → (v : Value) → ReadIn q v → ReadIn p v
read_in_within w (varint n) r = r
read_in_within w (fixed k n) r = r
read_in_within w (body b) r = within_trans w r

-- of a value and what is left of the part
abbrev pub Placed : ℕ → Part → Got Value → Type 0
Placed m p g = ReadIn p g.0 × After m p g.1

placed_weaken : {m : ℕ} (p : Part) (r : Res (Got Value)) → 1 ≤ m → Gives (Placed m p) r → Gives (Placed 1 p) r
placed_weaken {m} p r h q = gives_weaken (Placed m p) (Placed 1 p) r q λ g a. (a.0, after_weaken h a.1)

pub fixed-after : (w : ℕ) (p : Part) → Gives (Placed w p) (read_fixed w p)
unfolding read_fixed
fixed-after w p =
    let bytes = read_bytes p.at w p in
    gives-map (Placed w p) _ bytes (gives_weaken _ (λ g. Unit {0} × After w p g.1) bytes (bytes_after p.at w p) λ g h. (tt, h.1))

pub value_after : (place type : ℕ) (p : Part) → Gives (Placed 1 p) (read_value place type p)
unfolding read_value
value_after place type p =
    let P = Gives (Placed 1 p) in
    let number = gives_both _ _ (read_varint p) (varint-below p) (varint-after p) in
    if_ind P (eqb type VARINT) (λ t. gives-map (Placed 1 p) varint (read_varint p) number) λ t.
    if_ind P (eqb type I64) (λ t. placed_weaken p (read_fixed 8 p) (omega arith) (fixed-after 8 p)) λ t.
    if_ind P (eqb type LEN) (λ t. gives-map (Placed 1 p) body (read_delimited p) (delimited_after p)) λ t.
    if_ind P (eqb type I32) (λ t. placed_weaken p (read_fixed 4 p) (omega arith) (fixed-after 4 p)) λ t. tt

pub field-after : (p : Part) → Gives (λ g. ReadIn p g.0.value × After 1 p g.1) (read_field p)
unfolding read_field
field-after p =
    let P : Got Field → Type 0 = λ g. ReadIn p g.0.value × After 1 p g.1 in
    gives_bind _ P (read_varint p) _ (varint-after p) λ a q.
    let value = read_value p.at (a.0 % 8) a.1 in
    let inside = value_after p.at (a.0 % 8) a.1 in
    let here = read_in_within (after-within q) in
    let placed = gives_weaken _ (Placed 1 p) value inside λ g w. (here g.0 w.0, after_then q w.1) in
    if_ind (Gives P) (is_field_number (a.0 / 8)) (λ t. gives-map P (field (a.0 / 8)) value placed) λ t. tt
