-- Each field takes two bytes at least, so that a table has half as many records or entries as there are bytes.
-- Assumes nothing.
use mathlib.Core.Path.{◌≡◌, refl, ◌∙◌}
use mathlib.Core.List.{List, [], ◌∷◌}
use mathlib.Core.Option.{Option, none, some}
use Prim.Native.Nat.{ℕ, ◌+◌, ◌*◌, ◌/◌, ◌%◌, ◌≤◌}
use native.Mathlib.Omega.{arith}
use lib.ListN.{length, length-map}
use Rattle.foundation.specs.Choices.{IfSome}
use Rattle.foundation.specs.Results.{Res, ok, refused, Part, Got}
use Rattle.foundation.proofs.ChoiceLaws.{if_ind}
use Rattle.foundation.proofs.ResultLaws.{Gives, gives_bind, gives_weaken, gives-map, gives-ok}
use Rattle.fields.specs.Fields.{StringTableTypes-record, StringTableTypes-local_name}
use Rattle.wire.specs.Wire.{Value, varint, fixed, body, Field, field, Message, read_varint, read_value, is_field_number, read_field, cut}
use Rattle.wire.specs.Messages.{values, bytes_of, bodies_of, cut_option, message, cut_all, messages, varints}
use Rattle.messages.specs.told.Asked.{bodies}
use Rattle.names.specs.Records.{Record, record_of}
use Rattle.names.specs.Names.{records_of}
use Rattle.wire.proofs.Readers.{PieceOf, within_shorter, after_shorter, varint-after, value_after}
use Rattle.wire.proofs.Progress.{every-gives}
use Rattle.wire.proofs.MessageLaws.{values_few}
use Rattle.wire.proofs.Places.{cut_in, bytes_of-in}

field_two : (p : Part) → Gives (λ g. length g.1.bytes + 2 ≤ length p.bytes) (read_field p)
unfolding read_field
field_two p =
    let P : Got Field → Type 0 = λ g. length g.1.bytes + 2 ≤ length p.bytes in
    gives_bind _ P (read_varint p) _ (varint-after p) λ a q.
    let value = read_value p.at (a.0 % 8) a.1 in
    let shorter = gives_weaken _ (λ g. length g.1.bytes + 2 ≤ length p.bytes) value (value_after p.at (a.0 % 8) a.1) λ g w.
    omega (arith, after_shorter q, after_shorter w.1) in
    if_ind (Gives P) (is_field_number (a.0 / 8)) (λ t. gives-map P (field (a.0 / 8)) value shorter) λ t. tt

cut_halved : (p : Part) → Gives (λ m. 2 * length m ≤ length p.bytes) (cut p)
unfolding cut
cut_halved =
    every-gives read_field (λ p m. 2 * length m ≤ length p.bytes) _ (λ p. omega arith) field_two λ p g m t h. omega arith

bodies_of_few : (vs : List Value) → length (bodies_of vs) ≤ length vs
unfolding bodies_of
bodies_of_few [] = omega arith
bodies_of_few (varint n ∷ vs) = omega (arith, bodies_of_few vs)
bodies_of_few (fixed w n ∷ vs) = omega (arith, bodies_of_few vs)
bodies_of_few (body p ∷ vs) = omega (arith, bodies_of_few vs)

pub bodies_few : (k : ℕ) (p : Part) {m : Message} → cut p ≡ ok m → 2 * length (bodies k m) ≤ length p.bytes
bodies_few k p {m} e =
    omega (arith, bodies_of_few (values k m), values_few k m, gives-ok (λ m. 2 * length m ≤ length p.bytes) e (cut_halved p))

-- of a message in the message
Few : Part → Message → Type 0
Few p t = 2 * length t ≤ length p.bytes

option_few : (p : Part) (o : Option Part) → IfSome (PieceOf p) o → Gives (IfSome (Few p)) (cut_option o)
unfolding Few
option_few p none w = tt
option_few p (some q) w = gives_bind (Few q) (IfSome (Few p)) (cut q) _ (cut_halved q) λ t h. omega (arith, within_shorter w)

pub inner_few : (j k : ℕ) (p : Part) {m table : Message} → cut p ≡ ok m → message j m ≡ ok (some table) → 2 * length (bodies k table) ≤ length p.bytes
unfolding message Few
inner_few j k p {m} {table} e f =
    let inside = option_few p (bytes_of j m) (bytes_of-in p j m (gives-ok _ e (cut_in p))) in
    omega (arith, bodies_of_few (values k table), values_few k table, gives-ok (IfSome (Few p)) f inside)

-- as many records as bodies
cut_all-many : (ps : List Part) → Gives (λ ms. length ms ≡ length ps) (cut_all ps)
unfolding cut_all
cut_all-many [] = refl
cut_all-many (p ∷ ps) =
    gives_bind (λ m. Unit {0}) (λ ms. length ms ≡ length (p ∷ ps)) (cut p) _ (any (cut p)) λ m t.
    gives_bind (λ ms. length ms ≡ length ps) (λ ms. length ms ≡ length (p ∷ ps)) (cut_all ps) _ (cut_all-many ps) λ ms e. omega arith
  where
    any : {A : Type 0} (r : Res A) → Gives (λ a. Unit {0}) r
    any (ok a) = tt
    any (refused c q) = tt

pub records-many : (m : Message) {records : List Record} → records_of m ≡ ok records → length records ≡ length (bodies StringTableTypes-record m)
unfolding records_of messages
records-many m {records} e = gives-ok (λ rs. length rs ≡ length (bodies StringTableTypes-record m)) e counts
  where
    any : {A : Type 0} (r : Res A) → Gives (λ a. Unit {0}) r
    any (ok a) = tt
    any (refused c q) = tt

    counts : Gives (λ rs. length rs ≡ length (bodies StringTableTypes-record m)) (records_of m)
    counts =
        gives_bind (λ ms. length ms ≡ length (bodies StringTableTypes-record m)) _ (cut_all (bodies StringTableTypes-record m)) _
        (cut_all-many (bodies StringTableTypes-record m)) λ ms h.
        gives_bind (λ a. Unit {0}) _ (varints StringTableTypes-local_name m) _ (any (varints StringTableTypes-local_name m)) λ l t. length-map ms record_of ∙ h
