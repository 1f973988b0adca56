-- Where a reading breaks: each refusal's place among the n decoded bytes. No reading is refused for its areas: 11 and 12 come after all
-- that is read.
-- Assumes nothing.
use mathlib.Core.Path.{◌≡◌, refl, ap}
use mathlib.Core.Bool.{Bool, true, false, ◌||◌}
use mathlib.Core.List.{List, [], ◌∷◌}
use mathlib.Core.Option.{Option, none, some}
use Prim.Native.Nat.{ℕ, zero, suc, ◌+◌, ◌/◌, ◌%◌, ◌^◌, ◌≤◌, ◌<◌}
use native.Mathlib.Omega.{arith}
use lib.Dec.{eqb, ltb}
use lib.Signed.{lt_z}
use lib.ListN.{length, get_elem?}
use Rattle.std.specs.Prelude.{if◌then◌else◌}
use Rattle.foundation.specs.Choices.{if_some, or_else, All, IfSome}
use Rattle.foundation.specs.Results.{
  Cause,
  d1_too_long,
  d2_too_long,
  string_ends,
  newer_version,
  empty_payload,
  not_a_byte,
  varint_cut_short,
  past_its_message,
  field_too_large,
  forbidden_field,
  wire_type,
  oversized_varint,
  too_many_types,
  text_too_long,
  sheet_too_long,
  Res,
  ok,
  refused,
  Part,
  ◌from◌,
  Got,
  map_got,
}
use Rattle.foundation.specs.Results as Results
use Rattle.foundation.specs.Texts.{Text}
use Rattle.foundation.proofs.ChoiceLaws.{if_ind, some_ind}
use Rattle.foundation.proofs.EveryLaws.{all-at}
use Rattle.foundation.proofs.ResultLaws.{Gives, gives_weaken}
use Rattle.encoding.specs.Encoding.{unit_limit, decoded, first_above255}
use Rattle.wire.specs.Wire.{Value, varint, fixed, body, Message, VARINT, I64, LEN, I32, group, groups_from, read_varint, read_bytes, read_delimited, read_fixed, read_value, is_field_number, read_field, is_empty, repeated, cut, packed}
use Rattle.wire.specs.Messages.{values, as_body, index, cut_option, bytes_of, message, bodies_of, cut_all, messages, varints_in, joined, varints}
use Rattle.wire.proofs.Readers.{After, PieceOf, ReadIn, after-length, after_shorter, within-length, varint-after, delimited_after, field-after}
use Rattle.wire.proofs.MessageLaws.{Values, values_weaken, values-all, bytes_of_all}
use Rattle.wire.proofs.Places.{cut_in}
use Rattle.names.specs.Names.{Names, records_of, record_at, string, qualified_name, ends_fit, strings_from, d2_string}
use Rattle.names.specs.Records.{decides}
use Rattle.declaration_rows.specs.Declarations.{star, Signature}
use Rattle.schema.specs.Reading.{Read, pure, ◌>>=◌, lift, enter, kept, TypeTable, Scope, scope, name_in, class_name_in, allowance, each}
use Rattle.schema.specs.Types.{Walk, max_depth, resolve_at, type_in, projection_in, argument_in, parse_at, type_at, declared_type, type_table_in}
use Rattle.schema.specs.Members.{named, signature_of, signature_in, field_of, forgiven, field_in, of_signature, parameter_in, list_in, constructor_in, function_in, property_in, alias_in, Head, head_in, constructors_in, function_field, property_field, alias_field, lists_in, after_table, body_in, parameters_in}
use Rattle.inputs.specs.Refusals.{number_of}
use Rattle.inputs.specs.Inputs.{Input, kind_of, carries_declarations, string_limit, supported_major, major, later_fault, fault_of}
use Rattle.declarations.specs.Payload.{payload}
use Rattle.passes.specs.Answered.{nothing_read}
use Rattle.metadata.specs.Read.{reading}

-- What holds of a refusal's place where n bytes are read. What a tag says stands after the tag's first byte, and a varint is oversized after
-- eleven bytes; a varint or a fixed value may be missing at the very end.
abbrev pub PlaceHolds : ℕ → Cause → ℕ → Type 0
PlaceHolds n d1_too_long place = Unit {0}
PlaceHolds n d2_too_long place = Unit {0}
PlaceHolds n string_ends place = Unit {0}
PlaceHolds n newer_version place = Unit {0}
PlaceHolds n empty_payload place = Unit {0}
PlaceHolds n (not_a_byte unit) place = Unit {0}
PlaceHolds n varint_cut_short place = place ≤ n
PlaceHolds n past_its_message place = place ≤ n
PlaceHolds n field_too_large place = place < n
PlaceHolds n forbidden_field place = place < n
PlaceHolds n (wire_type type) place = place < n
PlaceHolds n oversized_varint place = place < n
PlaceHolds n too_many_types place = Unit {0}
PlaceHolds n text_too_long place = ⊥
PlaceHolds n sheet_too_long place = ⊥

-- What is read is as P says, or it is refused at such a place.
abbrev pub Placing : {A : Type 0} → ℕ → (A → Type 0) → Res A → Type 0
Placing n P (ok a) = P a
Placing n P (refused c place) = PlaceHolds n c place

abbrev Any : {A : Type 0} → A → Type 0
Any a = Unit {0}

module _ (n : ℕ) where
  placing-bind : {A B : Type 0} (P : A → Type 0) (Q : B → Type 0) (r : Res A) (f : A → Res B) → Placing n P r → ((a : A) → P a → Placing n Q (f a))
      → Placing n Q (Results.◌>>=◌ r f)
  placing-bind P Q (ok a) f p h = h a p
  placing-bind P Q (refused c place) f p h = p

  placing-map : {A B : Type 0} (f : A → B) (r : Res (Got A)) → Placing n Any r → Placing n Any (map_got f r)
  placing-map f (ok g) p = tt
  placing-map f (refused c place) p = p

  placing-any : {A : Type 0} (P : A → Type 0) (r : Res A) → Placing n P r → Placing n Any r
  placing-any P (ok a) p = tt
  placing-any P (refused c place) p = p

  -- what is known of the reading, and of its refusals
  placing-both : {A : Type 0} (P : A → Type 0) (r : Res A) → Gives P r → Placing n Any r → Placing n P r
  placing-both P (ok a) g p = g
  placing-both P (refused c place) g p = p

  -- the part lies among the first n bytes
  abbrev In : Part → Type 0
  In p = p.at + length p.bytes ≤ n

  in_after : {m : ℕ} {p q : Part} → After m p q → In p → In q
  in_after a h = omega (arith, ap (λ (x : Part). x.at) a.is, after-length a)

  in_within : {p q : Part} → PieceOf p q → In p → In q
  in_within w h = omega (arith, ap (λ (x : Part). x.at) w.is, within-length w, w.fits)

  -- readers of parts
  placing-groups : (s k a : ℕ) (bs : List ℕ) → s ≤ a → a + length bs ≤ n → Placing n Any (groups_from s k a bs)
  unfolding groups_from
  placing-groups s k a [] h g = omega arith
  placing-groups s zero a (b ∷ bs) h g = omega arith
  placing-groups s (suc k) a (b ∷ bs) h g =
      if_ind (Placing n Any) (ltb b 128) (λ t. tt) λ t.
      placing-map (λ gs. group k b ∷ gs) (groups_from s k (a + 1) bs) (placing-groups s k (a + 1) bs (omega arith) (omega arith))

  placing-varint : (p : Part) → In p → Placing n (λ g. After 1 p g.1) (read_varint p)
  unfolding read_varint
  placing-varint p h =
      placing-both _ (read_varint p) (varint-after p)
      (placing-map _ (groups_from p.at 10 p.at p.bytes) (placing-groups p.at 10 p.at p.bytes (omega arith) (omega arith)))

  placing-bytes : (place k : ℕ) (p : Part) → place ≤ n → Placing n Any (read_bytes place k p)
  unfolding read_bytes
  placing-bytes place k p h = if_ind (Placing n Any) (ltb (length p.bytes) k) (λ t. h) λ t. tt

  placing-delimited : (p : Part) → In p → Placing n (λ g. PieceOf p g.0 × After 1 p g.1) (read_delimited p)
  unfolding read_delimited
  placing-delimited p h =
      placing-both _ (read_delimited p) (delimited_after p)
      (placing-bind _ Any (read_varint p) _ (placing-varint p h) λ a q. placing-bytes p.at a.0 a.1 (omega arith))

  placing-fixed : (w : ℕ) (p : Part) → In p → Placing n Any (read_fixed w p)
  unfolding read_fixed
  placing-fixed w p h = placing-map _ (read_bytes p.at w p) (placing-bytes p.at w p (omega arith))

  placing-value : (place type : ℕ) (p : Part) → place < n → In p → Placing n Any (read_value place type p)
  unfolding read_value
  placing-value place type p h i =
      if_ind (Placing n Any) (eqb type VARINT) (λ t. placing-map varint (read_varint p) (placing-any _ (read_varint p) (placing-varint p i))) λ t.
      if_ind (Placing n Any) (eqb type I64) (λ t. placing-fixed 8 p i) λ t.
      if_ind (Placing n Any) (eqb type LEN) (λ t. placing-map body (read_delimited p) (placing-any _ (read_delimited p) (placing-delimited p i))) λ t.
      if_ind (Placing n Any) (eqb type I32) (λ t. placing-fixed 4 p i) λ t. h

  placing-field : (p : Part) → In p → Placing n (λ g. In g.1) (read_field p)
  unfolding read_field
  placing-field p h =
      placing-both _ (read_field p) (gives_weaken _ _ (read_field p) (field-after p) λ g a. in_after a.1 h)
      (placing-bind _ Any (read_varint p) _ (placing-varint p h) λ a q.
      let there : p.at < n = omega (arith, after_shorter q) in
      if_ind (Placing n Any) (is_field_number (a.0 / 8))
      (λ t. placing-map _ (read_value p.at (a.0 % 8) a.1) (placing-value p.at (a.0 % 8) a.1 there (in_after q h))) λ t.
      if_ind (λ c. PlaceHolds n c p.at) (ltb (a.0 / 8) (2 ^ 32)) (λ t. there) λ t. there)

  module _ {A : Type 0} (read : Part → Res (Got A)) (one : (p : Part) → In p → Placing n (λ g. In g.1) (read p)) where
    placing-repeated : (k : ℕ) (p : Part) → In p → Placing n Any (repeated read k p)
    unfolding repeated
    placing-repeated zero p h = tt
    placing-repeated (suc k) p h =
        if_ind (Placing n Any) (is_empty p.bytes) (λ t. tt) λ t.
        placing-bind _ Any (read p) _ (one p h) λ g i. placing-bind Any Any (repeated read k g.1) _ (placing-repeated k g.1 i) λ xs t. tt

  -- messages whose bodies lie among the n bytes
  abbrev BodyIn : Value → Type 0
  BodyIn v = IfSome In (as_body v)

  abbrev Inside : Message → Type 0
  Inside = Values BodyIn

  read-body : (p : Part) → In p → (v : Value) → ReadIn p v → BodyIn v
  read-body p h (varint k) r = tt
  read-body p h (fixed w k) r = tt
  read-body p h (body q) r = in_within r h

  placing-cut : (p : Part) → In p → Placing n Inside (cut p)
  unfolding cut
  placing-cut p h =
      placing-both Inside (cut p) (gives_weaken _ Inside (cut p) (cut_in p) λ m c. values_weaken (ReadIn p) BodyIn (read-body p h) m c)
      (placing-repeated read_field placing-field (length p.bytes) p h)

  placing-next : (p : Part) → In p → Placing n (λ g. In g.1) (read_varint p)
  placing-next p h = placing-both _ (read_varint p) (gives_weaken _ _ (read_varint p) (varint-after p) λ g a. in_after a h) (placing-any _ (read_varint p) (placing-varint p h))

  placing-packed : (p : Part) → In p → Placing n Any (packed p)
  unfolding packed
  placing-packed p h = placing-repeated read_varint placing-next (length p.bytes) p h

  placing-message : (k : ℕ) (m : Message) → Inside m → Placing n (IfSome Inside) (message k m)
  unfolding message
  placing-message k m h = go (bytes_of k m) (bytes_of_all In k m h)
    where
      go : (o : Option Part) → IfSome In o → Placing n (IfSome Inside) (cut_option o)
      go none i = tt
      go (some p) i = placing-bind Inside (IfSome Inside) (cut p) _ (placing-cut p i) λ m h. h

  placing-messages : (k : ℕ) (m : Message) → Inside m → Placing n (All Inside) (messages k m)
  unfolding messages cut_all bodies_of
  placing-messages k m h = go (values k m) (values-all BodyIn k m h)
    where
      go : (vs : List Value) → All BodyIn vs → Placing n (All Inside) (cut_all (bodies_of vs))
      go [] h = tt
      go (varint v ∷ vs) h = go vs h.1
      go (fixed w v ∷ vs) h = go vs h.1
      go (body p ∷ vs) h =
          placing-bind Inside (All Inside) (cut p) _ (placing-cut p h.0) λ m i.
          placing-bind (All Inside) (All Inside) (cut_all (bodies_of vs)) _ (go vs h.1) λ ms j. (i, j)

  placing-varints : (k : ℕ) (m : Message) → Inside m → Placing n Any (varints k m)
  unfolding varints joined
  placing-varints k m h = go (values k m) (values-all BodyIn k m h)
    where
      one : (v : Value) → BodyIn v → Placing n Any (varints_in v)
      one (varint v) i = tt
      one (fixed w v) i = tt
      one (body p) i = placing-packed p i

      go : (vs : List Value) → All BodyIn vs → Placing n Any (joined vs)
      go [] h = tt
      go (v ∷ vs) h =
          placing-bind Any Any (varints_in v) _ (one v h.0) λ ns t. placing-bind Any Any (joined vs) _ (go vs h.1) λ more t. tt

  placing-records : (m : Message) → Inside m → Placing n Any (records_of m)
  unfolding records_of
  placing-records m h =
      placing-bind (All Inside) Any (messages _ m) _ (placing-messages _ m h) λ ms i. placing-bind Any Any (varints _ m) _ (placing-varints _ m h) λ ns t. tt

  -- readings that count types
  record Places {A : Type 0} (P : A → Type 0) (m : Read A) : Type 0 where
    at : (l : ℕ) → Placing n (λ r. P r.0) (m l)

  places-pure : {A : Type 0} {P : A → Type 0} {a : A} → P a → Places P (pure a)
  places-pure p = record { at = λ l. p }

  places-lift : {A : Type 0} {P : A → Type 0} (r : Res A) → Placing n P r → Places P (lift r)
  places-lift (ok a) p = record { at = λ l. p }
  places-lift (refused c place) p = record { at = λ l. p }

  places_then : {A B : Type 0} {P : A → Type 0} {Q : B → Type 0} {m : Read A} {f : A → Read B} → Places P m → ((a : A) → P a → Places Q (f a)) → Places Q (m >>= f)
  places_then {m} {f} h g = record { at = λ l. placing-bind _ _ (m l) (λ r. f r.0 r.1) (h.at l) λ r p. (g r.0 p).at r.1 }

  places-if_some : {A B : Type 0} {P : A → Type 0} {Q : B → Type 0} (o : Option A) {m : Read B} {f : A → Read B} → IfSome P o → Places Q m → ((a : A) → P a → Places Q (f a))
      → Places Q (if_some o m f)
  places-if_some none p h g = h
  places-if_some (some a) p h g = g a p

  places-some : {A B : Type 0} {Q : B → Type 0} (o : Option A) {m : Read B} {f : A → Read B} → Places Q m → ((a : A) → Places Q (f a)) → Places Q (if_some o m f)
  places-some none h g = h
  places-some (some a) h g = g a

  places-enter : {A : Type 0} {P : A → Type 0} {m : Read A} → Places P m → Places P (enter m)
  places-enter {P = P} {m = m} h = record { at = entered }
    where
      entered : (l : ℕ) → Placing n (λ r. P r.0) (enter m l)
      entered zero = tt
      entered (suc l) = h.at l

  places-kept : {A : Type 0} {f : Message → Read (Option A)} → ((m : Message) → Inside m → Places Any (f m)) → (ms : List Message) → All Inside ms → Places Any (kept f ms)
  unfolding kept
  places-kept h [] i = places-pure tt
  places-kept h (m ∷ ms) i = places_then (h m i.0) λ a t. places_then (places-kept h ms i.1) λ xs t. places-pure tt

  places-each : {A : Type 0} {f : Message → Read A} → ((m : Message) → Inside m → Places Any (f m)) → (ms : List Message) → All Inside ms → Places Any (each f ms)
  unfolding each
  places-each h [] i = places-pure tt
  places-each h (m ∷ ms) i = places_then (h m i.0) λ a t. places_then (places-each h ms i.1) λ xs t. places-pure tt

  -- names, of strings of d2 that refuse nothing else
  abbrev NamesPlaced : Names → Type 0
  NamesPlaced names = (i : ℕ) → Placing n Any (names.d2 i)

  placing-string : (names : Names) → NamesPlaced names → (i : ℕ) → Placing n Any (string names i)
  unfolding string
  placing-string names h i =
      some_ind (Placing n Any) (record_at i names.records) (λ e. h i) λ r e. if_ind (Placing n Any) (decides r) (λ t. tt) λ t. h i

  placing-qualified : (names : Names) → NamesPlaced names → (i : ℕ) → Placing n Any (qualified_name names i)
  unfolding qualified_name
  placing-qualified names h i = placing-bind Any Any (string names i) _ (placing-string names h i) λ t u. tt

  module _ (s : Scope) (h : NamesPlaced s.names) (table : All Inside s.table.types) where
    places-name_in : (k : ℕ) (m : Message) → Places Any (name_in s k m)
    unfolding name_in
    places-name_in k m = places-some (index k m) (places-pure tt) λ i. places-lift (string s.names i) (placing-string s.names h i)

    places-class_name_in : (k : ℕ) (m : Message) → Places Any (class_name_in s k m)
    unfolding class_name_in
    places-class_name_in k m = places-some (index k m) (places-pure tt) λ i. places-lift (qualified_name s.names i) (placing-qualified s.names h i)

    -- types
    module _ (walk : Walk) (w : (d : ℕ) (m : Message) → Inside m → Places Any (walk d m)) where
      places-resolve_at : (d i : ℕ) → Places Any (resolve_at walk s d i)
      unfolding resolve_at
      places-resolve_at d i =
          if_ind (Places Any) (ltb d max_depth)
          (λ t. places-if_some (get_elem? s.table.types i) (all-at Inside s.table.types i table) (places-pure tt) λ m b.
          places_then (w (d + 1) m b) λ t u. places-pure tt)
          λ t. places-pure tt

      places-type_in : (d inline indexed : ℕ) (m : Message) → Inside m → Places Any (type_in walk s d inline indexed m)
      unfolding type_in
      places-type_in d inline indexed m b =
          places_then (places-lift (message inline m) (placing-message inline m b)) λ t p.
          places-if_some t p (places-some (index indexed m) (places-pure tt) (places-resolve_at d)) λ inner b. places_then (w d inner b) λ it u. places-pure tt

      places-argument_in : (d : ℕ) (m : Message) → Inside m → Places Any (argument_in walk s d m)
      unfolding argument_in
      places-argument_in d m b =
          if_ind (Places Any) (eqb (projection_in m) star) (λ t. places-enter (places-pure tt)) λ t.
          places_then (places-type_in d _ _ m b) λ o u. places-pure tt

      places-parse_at : (d : ℕ) (m : Message) → Inside m → Places Any (parse_at walk s d m)
      unfolding parse_at
      places-parse_at d m b =
          places-enter (
          places_then (places-lift (messages _ m) (placing-messages _ m b)) λ arguments p.
          places_then (places-kept (places-argument_in (d + 1)) arguments p) λ ts u.
          places_then (places-class_name_in _ m) λ name u. places-pure tt)

    places-type_at : (k d : ℕ) (m : Message) → Inside m → Places Any (type_at k s d m)
    unfolding type_at
    places-type_at zero d m b = record { at = λ l. tt }
    places-type_at (suc k) d m b = places-parse_at (type_at k s) (places-type_at k) d m b

    places-declared_type : (inline indexed : ℕ) (m : Message) → Inside m → Places Any (declared_type s inline indexed m)
    unfolding declared_type
    places-declared_type = places-type_in (type_at allowance s) (places-type_at allowance) 0

    -- signatures
    places-signature_of : (fallback : Option Text) (m : Message) → Places Any (signature_of s fallback m)
    unfolding signature_of
    places-signature_of fallback m =
        places_then (places-name_in _ m) λ own u.
        places-some (or_else own fallback) (places-pure tt) λ name. places_then (places-name_in _ m) λ descriptor u. places-pure tt

    places-signature_in : (fallback : Option Text) (k : ℕ) (m : Message) → Inside m → Places Any (signature_in s fallback k m)
    unfolding signature_in
    places-signature_in fallback k m b =
        places_then (places-lift (message k m) (placing-message k m b)) λ t p. places-some t (places-pure tt) (places-signature_of fallback)

    places-field_of : (m : Message) → Places Any (field_of s m)
    unfolding field_of
    places-field_of m = places_then (places-name_in _ m) λ name u. places_then (places-name_in _ m) λ descriptor u. places-pure tt

    places-field_in : (m : Message) → Places Any (field_in s m)
    unfolding field_in
    places-field_in m = places-some (forgiven (message _ m)) (places-pure tt) places-field_of

    places-of_signature : (read : Message → Read (Option Signature)) → ((m : Message) → Inside m → Places Any (read m)) → (o : Option Message) → IfSome Inside o
        → Places Any (of_signature read o)
    places-of_signature read g none p = places-pure tt
    places-of_signature read g (some m) p = g m p

    -- members
    places-named : {A : Type 0} (read : Text → Read A) (o : Option Text) → ((t : Text) → Places Any (read t)) → Places Any (named o read)
    places-named read none g = places-pure tt
    places-named read (some t) g = places_then (g t) λ a u. places-pure tt

    places-parameter_in : (m : Message) → Inside m → Places Any (parameter_in s m)
    unfolding parameter_in
    places-parameter_in m b =
        places_then (places-name_in _ m) λ name u.
        places_then (places-declared_type _ _ m b) λ type u. places_then (places-declared_type _ _ m b) λ vararg u. places-pure tt

    places-parameters_in : (k : ℕ) (m : Message) → Inside m → Places Any (parameters_in s k m)
    unfolding parameters_in
    places-parameters_in k m b = places_then (places-lift (messages k m) (placing-messages k m b)) (places-each places-parameter_in)

    places-list_in : {A : Type 0} {read : Message → Read (Option A)} → ((m : Message) → Inside m → Places Any (read m)) → (k : ℕ) (m : Message) → Inside m
        → Places Any (list_in read k m)
    unfolding list_in
    places-list_in g k m b = places_then (places-lift (messages k m) (placing-messages k m b)) (places-kept g)

    places-constructor_in : (m : Message) → Inside m → Places Any (constructor_in s m)
    unfolding constructor_in
    places-constructor_in m b =
        places_then (places-parameters_in _ m b) λ parameters u. places_then (places-signature_in _ _ m b) λ signature u. places-pure tt

    places-function_in : (m : Message) → Inside m → Places Any (function_in s m)
    unfolding function_in
    places-function_in m b =
        places_then (places-name_in _ m) λ o u. places-named _ o λ name.
        places_then (places-parameters_in _ m b) λ parameters u.
        places_then (places-declared_type _ _ m b) λ receiver u.
        places_then (places-signature_in _ _ m b) λ signature u.
        places_then (places-declared_type _ _ m b) λ returned u. places-pure tt

    places-property_in : (m : Message) → Inside m → Places Any (property_in s m)
    unfolding property_in
    places-property_in m b =
        places_then (places-name_in _ m) λ o u. places-named _ o λ name.
        places_then (places-lift (message _ m) (placing-message _ m b)) λ signature p.
        places_then (places-of_signature (field_in s) (λ f i. places-field_in f) signature p) λ field u.
        places_then (places-declared_type _ _ m b) λ receiver u.
        places_then (places-of_signature _ (places-signature_in _ _) signature p) λ getter u.
        places_then (places-of_signature _ (places-signature_in _ _) signature p) λ setter u.
        places_then (places-declared_type _ _ m b) λ type u. places-pure tt

    places-alias_in : (m : Message) → Inside m → Places Any (alias_in s m)
    unfolding alias_in
    places-alias_in m b =
        places_then (places-name_in _ m) λ o u. places-named _ o λ name.
        places_then (places-declared_type _ _ m b) λ underlying u. places_then (places-declared_type _ _ m b) λ expanded u. places-pure tt

    places-head_in : (class : Bool) (m : Message) → Places Any (head_in class s m)
    places-head_in true m = places_then (places-class_name_in _ m) λ name u. places-pure tt
    places-head_in false m = places-pure tt

    places-constructors_in : (class : Bool) (m : Message) → Inside m → Places Any (constructors_in class s m)
    places-constructors_in true m b = places-list_in places-constructor_in _ m b
    places-constructors_in false m b = places-pure tt

    places-lists_in : (class : Bool) (head : Head) (m : Message) → Inside m → Places Any (lists_in class head s m)
    unfolding lists_in
    places-lists_in class head m b =
        places_then (places-constructors_in class m b) λ constructors u.
        places_then (places-list_in places-function_in (function_field class) m b) λ functions u.
        places_then (places-list_in places-property_in (property_field class) m b) λ properties u.
        places_then (places-list_in places-alias_in (alias_field class) m b) λ aliases u. places-pure tt

  places-type_table_in : (k : ℕ) (m : Message) → Inside m → Places (λ (t : TypeTable). All Inside t.types) (type_table_in k m)
  unfolding type_table_in
  places-type_table_in k m b =
      places_then (places-lift (message k m) (placing-message k m b)) λ t p.
      places-if_some t p (places-pure tt) λ table b. places_then (places-lift (messages _ table) (placing-messages _ table b)) λ types i. places-pure i

  places-body_in : (class : Bool) (names : Names) (m : Message) → NamesPlaced names → Inside m → Places Any (body_in class names m)
  unfolding body_in after_table
  places-body_in class names m h b =
      places_then (places-type_table_in _ m b) λ table i.
      places_then (places-head_in (scope names table) h i class m) λ head u. places-lists_in (scope names table) h i class head m b

-- the whole
placing_payload : (kind : ℕ) (d2 : ℕ → Res (Option Text)) (bytes : List ℕ) → ((i : ℕ) → Placing (length bytes) Any (d2 i))
    → Placing (length bytes) Any (payload kind d2 bytes)
unfolding payload
placing_payload kind d2 bytes h =
    let n = length bytes in
    let p = ◌from◌ 0 bytes in
    placing-bind n _ Any (read_delimited p) _ (placing-delimited n p (omega arith)) λ g a.
    placing-bind n _ Any (cut g.0) _ (placing-cut n g.0 (in_within n a.0 (omega arith))) λ fields i.
    placing-bind n Any Any (records_of fields) _ (placing-records n fields i) λ records u.
    placing-bind n _ Any (cut g.1) _ (placing-cut n g.1 (in_after n a.1 (omega arith))) λ m b.
    (places-body_in n (eqb kind 1) (record { records = records; d2 = d2 }) m h b).at allowance

-- 1 to 6 come before any byte is read.
abbrev Unread : Cause → Type 0
Unread c = number_of c ≤ 6

-- Where a refusal comes from: no byte was read, or d1 was decoded, and the place is among its bytes.
pub data BreaksAt (i : Input) (c : Cause) (place : ℕ) : Type 0 where
  before : Unread c → BreaksAt i c place
  inside : (bytes : List ℕ) → decoded i.d1 ≡ ok bytes → PlaceHolds (length bytes) c place → BreaksAt i c place

abbrev pub Breaks : {A : Type 0} → Input → Res A → Type 0
Breaks i (ok a) = Unit {0}
Breaks i (refused c place) = BreaksAt i c place

abbrev Unreads : {A : Type 0} → Res A → Type 0
Unreads (ok a) = Unit {0}
Unreads (refused c place) = Unread c

decoded_unread : (us : List ℕ) → Unreads (decoded us)
unfolding decoded number_of
decoded_unread [] = omega arith
decoded_unread (u ∷ us) = some_ind Unreads (first_above255 (u ∷ us)) (λ e. tt) λ unit e. omega arith

fault_unread : (i : Input) → IfSome Unread (fault_of i)
unfolding fault_of later_fault number_of
fault_unread i =
    if_ind (IfSome Unread) (ltb unit_limit (length i.d1)) (λ t. omega arith) λ t.
    if_ind (IfSome Unread) (ltb unit_limit (length i.d2) || ltb string_limit (length i.ends)) (λ t. omega arith) λ t.
    if_ind (IfSome Unread) (ends_fit 0 i.ends (length i.d2)) (λ t. if_ind (IfSome Unread) (lt_z supported_major (major i)) (λ t. omega arith) λ t. tt) λ t. omega arith

-- what is read of the decoded bytes breaks among them
decoded_breaks : {A : Type 0} (i : Input) (f : List ℕ → Res A) → ((bytes : List ℕ) → Placing (length bytes) Any (f bytes)) → Breaks i (Results.◌>>=◌ (decoded i.d1) f)
decoded_breaks {A} i f h = go (decoded i.d1) refl (decoded_unread i.d1)
  where
    among : (bytes : List ℕ) → decoded i.d1 ≡ ok bytes → (r : Res A) → Placing (length bytes) Any r → Breaks i r
    among bytes e (ok a) p = tt
    among bytes e (refused c place) p = inside bytes e p

    go : (r : Res (List ℕ)) → decoded i.d1 ≡ r → Unreads r → Breaks i (Results.◌>>=◌ r f)
    go (ok bytes) e u = among bytes e (f bytes) (h bytes)
    go (refused c place) e u = before u

pub reading_breaks : (i : Input) → Breaks i (reading i)
unfolding reading d2_string
reading_breaks i = go (fault_of i) (fault_unread i)
  where
    d2 : ℕ → Res (Option Text)
    d2 = d2_string (strings_from 0 i.ends i.d2)

    go : (o : Option Cause) → IfSome Unread o
        → Breaks i (if_some o (if carries_declarations (kind_of i.k) then Results.◌>>=◌ (decoded i.d1) (payload (kind_of i.k) d2) else nothing_read) λ c. refused c 0)
    go none h =
        if_ind (Breaks i) (carries_declarations (kind_of i.k)) (λ t. decoded_breaks i (payload (kind_of i.k) d2) λ bytes. placing_payload (kind_of i.k) d2 bytes λ j. tt) λ t. tt
    go (some c) h = before h

-- and none is refused with 11 or 12
placed-early : (n : ℕ) (c : Cause) (place : ℕ) → PlaceHolds n c place → 11 ≤ number_of c → number_of c ≤ 12 → ⊥
unfolding number_of
placed-early n d1_too_long place p h g = omega arith
placed-early n d2_too_long place p h g = omega arith
placed-early n string_ends place p h g = omega arith
placed-early n newer_version place p h g = omega arith
placed-early n empty_payload place p h g = omega arith
placed-early n (not_a_byte unit) place p h g = omega arith
placed-early n varint_cut_short place p h g = omega arith
placed-early n past_its_message place p h g = omega arith
placed-early n field_too_large place p h g = omega arith
placed-early n forbidden_field place p h g = omega arith
placed-early n (wire_type type) place p h g = omega arith
placed-early n oversized_varint place p h g = omega arith
placed-early n too_many_types place p h g = omega arith
placed-early n text_too_long place p h g = p
placed-early n sheet_too_long place p h g = p

pub breaks_early : (i : Input) (c : Cause) (place : ℕ) → BreaksAt i c place → 11 ≤ number_of c → number_of c ≤ 12 → ⊥
breaks_early i c place (before u) h g = omega arith
breaks_early i c place (inside bytes e p) h g = placed-early (length bytes) c place p h g
