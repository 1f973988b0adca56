-- A body begins later than the part that it was read in, so that it is shorter.
-- Assumes nothing.
use mathlib.Core.Path.{◌≡◌, refl, ap}
use Prim.Native.Nat.{ℕ, ◌/◌, ◌%◌, ◌≤◌, ◌<◌}
use native.Mathlib.Omega.{arith}
use lib.Dec.{eqb, ltb}
use lib.ListN.{length}
use Rattle.foundation.specs.Results.{Res, ok, refused, Part, Got}
use Rattle.foundation.proofs.ChoiceLaws.{if_ind}
use Rattle.foundation.proofs.ResultLaws.{Gives, gives_bind, gives-map, gives_weaken, gives_both}
use Rattle.wire.specs.Wire.{
  VARINT,
  I64,
  LEN,
  I32,
  Value,
  varint,
  fixed,
  body,
  Field,
  field,
  read_varint,
  read_bytes,
  read_delimited,
  read_fixed,
  read_value,
  is_field_number,
  read_field,
  cut,
}
use Rattle.wire.proofs.Readers.{After, varint-after, field-after}
use Rattle.wire.proofs.Progress.{every-gives}
use Rattle.wire.proofs.MessageLaws.{Values, values_weaken}

abbrev pub Later : ℕ → Value → Type 0
Later at (varint n) = Unit {0}
Later at (fixed w n) = Unit {0}
Later at (body q) = at < q.at

-- what holds of everything
pub gives_any : {A : Type 0} (P : A → Type 0) (r : Res A) → ((a : A) → P a) → Gives P r
gives_any P (ok a) h = h a
gives_any P (refused c p) h = tt

later_weaken : {a b : ℕ} → a ≤ b → (v : Value) → Later b v → Later a v
later_weaken h (varint n) l = l
later_weaken h (fixed w n) l = l
later_weaken h (body q) l = omega arith

after-later : {m : ℕ} {p q : Part} → After m p q → p.at ≤ q.at
after-later a = let e = ap (λ (x : Part). x.at) a.is in omega arith

bytes-at : (place n : ℕ) (p : Part) → Gives (λ g. g.0.at ≡ p.at) (read_bytes place n p)
unfolding read_bytes
bytes-at place n p = if_ind (Gives (λ g. g.0.at ≡ p.at)) (ltb (length p.bytes) n) (λ t. tt) λ t. refl

delimited_later : (p : Part) → Gives (λ g. p.at < g.0.at) (read_delimited p)
unfolding read_delimited
delimited_later p =
    gives_bind _ (λ g. p.at < g.0.at) (read_varint p) _ (varint-after p) λ a q.
    let e = ap (λ (x : Part). x.at) q.is in
    gives_weaken _ (λ g. p.at < g.0.at) (read_bytes p.at a.0 a.1) (bytes-at p.at a.0 a.1) λ g f. omega (arith, q.least)

value-later : (place type : ℕ) (p : Part) → Gives (λ g. Later p.at g.0) (read_value place type p)
unfolding read_value read_fixed
value-later place type p =
    let P : Got Value → Type 0 = λ g. Later p.at g.0 in
    if_ind (Gives P) (eqb type VARINT) (λ t. gives-map P varint (read_varint p) (gives_any _ (read_varint p) λ a. tt)) λ t.
    if_ind (Gives P) (eqb type I64) (λ t. gives-map P _ (read_bytes p.at 8 p) (gives_any _ (read_bytes p.at 8 p) λ a. tt)) λ t.
    if_ind (Gives P) (eqb type LEN) (λ t. gives-map P body (read_delimited p) (delimited_later p)) λ t.
    if_ind (Gives P) (eqb type I32) (λ t. gives-map P _ (read_bytes p.at 4 p) (gives_any _ (read_bytes p.at 4 p) λ a. tt)) λ t. tt

pub field-later : (p : Part) → Gives (λ g. Later p.at g.0.value) (read_field p)
unfolding read_field
field-later p =
    let P : Got Field → Type 0 = λ g. Later p.at g.0.value in
    gives_bind _ P (read_varint p) _ (varint-after p) λ a q.
    let value = read_value p.at (a.0 % 8) a.1 in
    let here = gives_weaken _ (λ g. Later p.at g.0) value (value-later p.at (a.0 % 8) a.1) λ g l. later_weaken (after-later q) g.0 l in
    if_ind (Gives P) (is_field_number (a.0 / 8)) (λ t. gives-map P (field (a.0 / 8)) value here) λ t. tt

-- every body of a message
pub cut_later : (p : Part) → Gives (Values (Later p.at)) (cut p)
unfolding cut
cut_later =
    every-gives read_field (λ p. Values (Later p.at)) (λ p g. Later p.at g.0.value × (p.at ≤ g.1.at)) (λ p. tt)
    (λ p. gives_both _ _ (read_field p) (field-later p) (gives_weaken _ _ (read_field p) (field-after p) λ g a. after-later a.1))
    λ p g m q l. (q.0, values_weaken (Later g.1.at) (Later p.at) (later_weaken q.1) m l)
