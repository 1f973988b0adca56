-- A record from its message, and the short messages that most records have: no field, or one of two bytes.
-- Assumes nothing.
use mathlib.Core.Path.{◌≡◌, refl, ap, sym, ◌∙◌}
use mathlib.Core.Bool.{Bool, true, false, ◌||◌}
use mathlib.Core.List.{List, [], ◌∷◌}
use mathlib.Core.Option.{Option, none, some}
use Prim.Native.Nat.{ℕ, ◌+◌, ◌-◌, ◌*◌, ◌/◌, ◌%◌, ◌^◌, ◌≤◌, ◌<◌}
use native.Mathlib.Omega.{arith}
use borrow.Author.Tests.{lt-ltb, ne_eqb}
use lib.Dec.{eqb}
use lib.ListN.{length, get_or}
use Rattle.std.specs.Prelude.{if◌then◌else◌, Some, None}
use Rattle.foundation.specs.Choices.{if_some, is_some}
use Rattle.foundation.specs.Results.{ok, ◌from◌, got, map_got}
use Rattle.foundation.specs.Texts.{Text}
use Rattle.wire.specs.Wire.{groups_from, read_varint, varint, field, read_field, repeated, Message, cut}
use Rattle.wire.specs.Messages.{values, first_of, as_body, varint_of, index, bytes_of, joined, varints}
use Rattle.wire.proofs.FieldLaws.{value-varint, number_fine, field-value}
use Rattle.wire.proofs.WalkLaws.{ok_same}
use Rattle.characters.specs.told.Places.{part_from}
use Rattle.messages.specs.told.Asked.{piece_told, index_told}
use Rattle.characters.proofs.UnitLaws.{units-ended, units-cons}
use Rattle.names.specs.Records.{record_of, decides, predefined_text, base_text, operated, text_of}
use Rattle.names.specs.told.RecordTold.{RecordTold}
use Rattle.names.specs.told.Name.{turned, source_text, named_text, plain}
use Rattle.names.specs.told.Stream.{listed_text}
use Rattle.record_names.specs.told.Named.{PredefinedTold, NamedTold}
use Rattle.record_names.specs.told.Steps.{BuiltTold}
use Rattle.names.specs.declared.name.Name.{Name}
use Rattle.names.specs.declared.name.Source.TheVariants.{Predefined}
use Rattle.names.specs.declared.records.Record.{Record}
use Rattle.foundation.specs.declared.Span.{Span}
use Rattle.std.specs.declared.option.Option as rust
use Rattle.record_names.proofs.PartLaws.{same-substituted}

-- Any record, as it was read.
module _ (bytes : List ℕ) (start end : ℕ) (read : Record) (r : RecordTold start (part_from start end bytes) read)
    {b : Bool} (d : (base : ℕ) (s : List ℕ) → b ≡ is_some (piece_told base s read.string) || is_some (index_told read.predefined)) where
  by-it : (m : Message) → cut (◌from◌ start (part_from start end bytes)) ≡ ok m → decides (record_of m) ≡ b
  by-it m w = ap decides (r.is m w) ∙ sym (d start (part_from start end bytes))

  pub named-decided : b ≡ true → {name : rust.Option Name} → BuiltTold bytes start read name → NamedTold bytes start end (Some name)
  named-decided c n = record {
    made = n.bytes;
    is = λ m w units. (by-it m w ∙ c, ap text_of (r.is m w) ∙ sym (n.is units end r.inside));
  }

  pub named-undecided : b ≡ false → NamedTold bytes start end None
  named-undecided c = record { made = tt; is = λ m w units. by-it m w ∙ c }

-- A predefined string as a name.
module _ {index : ℕ} {l : rust.Option Span} (e : listed_text l ≡ predefined_text index) where
  pub listed-absent : l ≡ None → PredefinedTold index None
  listed-absent g = record { bytes = tt; is = λ payload units. ap listed_text (sym g) ∙ e }

  pub listed-named : {p : Span} → l ≡ Some p → PredefinedTold index (Some (plain Predefined p))
  unfolding named_text source_text turned
  listed-named g = record {
    bytes = (tt, refl, omega arith, omega arith, refl);
    is = λ payload units. ap some (same-substituted _) ∙ ap listed_text (sym g) ∙ e;
  }

-- A varint of one byte, and a field of two.
one_byte : (a v : ℕ) (bs : List ℕ) → v < 128 → read_varint (◌from◌ a (v ∷ bs)) ≡ got v (◌from◌ (a + 1) bs)
unfolding read_varint groups_from
one_byte a v bs h =
    let e : v % 128 + 128 * 0 ≡ v = omega arith in
    rw (lt-ltb v 128 h) (ap (λ (n : ℕ). got n (◌from◌ (a + 1) bs)) e)

module _ (a n v : ℕ) (o : 0 < n) (h : n < 16) (k : v < 128) where
  two_bytes : read_field (◌from◌ a (n * 8 ∷ v ∷ [])) ≡ got (field n (varint v)) (◌from◌ (a + 1 + 1) [])
  two_bytes =
      let tag : n * 8 / 8 ≡ n = omega arith in
      let kind : n * 8 % 8 ≡ 0 = omega arith in
      field-value (◌from◌ a (n * 8 ∷ v ∷ [])) (one_byte a (n * 8) (v ∷ []) (omega arith)) (number_fine (n * 8 / 8) (omega arith) (omega arith))
      ∙ ap (map_got (field (n * 8 / 8))) (value-varint a (◌from◌ (a + 1) (v ∷ [])) kind)
      ∙ rw (tag, one_byte (a + 1) v [] k)

  cut-one : cut (◌from◌ a (n * 8 ∷ v ∷ [])) ≡ ok (field n (varint v) ∷ [])
  unfolding cut repeated
  cut-one = rw two_bytes

cut_none : (a : ℕ) → cut (◌from◌ a []) ≡ ok []
unfolding cut repeated
cut_none a = refl

-- A record of no field, and of one number.
without_none : decides (record_of []) ≡ false
unfolding record_of index varint_of bytes_of values
without_none = refl

without_one : (n v : ℕ) → (n ≡ 2 → ⊥) → decides (record_of (field n (varint v) ∷ [])) ≡ false
unfolding record_of index varint_of bytes_of values
without_one n v h = rw (ne_eqb n 2 h) (go (eqb n 6))
  where
    go : (t : Bool) → is_some (if_some (first_of (if t then varint v ∷ [] else [])) none as_body) || false ≡ false
    go true = refl
    go false = refl

module _ (v : ℕ) (h : v < 128) where
  only-decides : decides (record_of (field 2 (varint v) ∷ [])) ≡ true
  unfolding record_of index varint_of bytes_of values
  only-decides = rw (lt-ltb v (2 ^ 32) (omega arith))

  only-text : text_of (record_of (field 2 (varint v) ∷ [])) ≡ predefined_text v
  unfolding text_of base_text record_of index varint_of bytes_of values varints joined operated
  only-text = rw (lt-ltb v (2 ^ 32) (omega arith)) (go (predefined_text v))
    where
      go : (o : Option Text) → if_some o none (λ t. some t) ≡ o
      go none = refl
      go (some t) = refl

-- So of a message from start to end.
module _ (bytes : List ℕ) (start end : ℕ) where
  pub short_none : end ≤ start → NamedTold bytes start end None
  short_none h = record {
    made = tt;
    is = λ m w units.
        let e = ap (λ (s : List ℕ). cut (◌from◌ start s)) (sym (units-ended bytes start end h)) ∙ w in
        ap (λ (x : Message). decides (record_of x)) (sym (ok_same (sym (cut_none start) ∙ e))) ∙ without_none;
  }

  module _ {size t v : ℕ} (z : size ≡ end - start) (two : size ≡ 2) (i : end ≤ length bytes) (p : t ≡ get_or bytes start 0) (q : v ≡ get_or bytes (start + 1) 0) (k : v < 128) where
    are : part_from start end bytes ≡ t ∷ v ∷ []
    are =
        units-cons bytes start end (omega arith) (omega arith)
        ∙ ap (λ (l : List ℕ). get_or bytes start 0 ∷ l) (units-cons bytes (start + 1) end (omega arith) (omega arith))
        ∙ ap (λ (l : List ℕ). get_or bytes start 0 ∷ get_or bytes (start + 1) 0 ∷ l) (units-ended bytes (start + 1 + 1) end (omega arith))
        ∙ rw (← p, ← q)

    module _ (n : ℕ) (f : t ≡ n * 8) (o : 0 < n) (h : n < 16) (m : Message) (w : cut (◌from◌ start (part_from start end bytes)) ≡ ok m) where
      message-is : m ≡ field n (varint v) ∷ []
      message-is =
          let e = ap (λ (x : ℕ). cut (◌from◌ start (x ∷ v ∷ []))) f ∙ cut-one start n v o h k in
          ok_same (sym w ∙ ap (λ (s : List ℕ). cut (◌from◌ start s)) are ∙ e)

    pub short-without : (n : ℕ) → t ≡ n * 8 → 0 < n → n < 16 → (n ≡ 2 → ⊥) → NamedTold bytes start end None
    short-without n f o h g = record {
      made = tt;
      is = λ m w units. ap (λ (x : Message). decides (record_of x)) (message-is n f o h m w) ∙ without_one n v g;
    }

    pub short-predefined : t ≡ 16 → {name : rust.Option Name} → PredefinedTold v name → NamedTold bytes start end (Some name)
    short-predefined f l = record {
      made = l.bytes;
      is = λ m w units.
          let e = message-is 2 f (omega arith) (omega arith) m w in
          (ap (λ (x : Message). decides (record_of x)) e ∙ only-decides v k, ap (λ (x : Message). text_of (record_of x)) e ∙ only-text v k ∙ sym (l.is bytes units));
    }
