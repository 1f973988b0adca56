-- The first occurrence of a field, by a walk: what the code's answer to the field at a place says of it.
-- Assumes nothing.
use mathlib.Core.Path.{◌≡◌, refl, ap, sym, ◌∙◌, subst}
use mathlib.Core.Bool.{false, not}
use mathlib.Core.List.{List, ◌∷◌}
use mathlib.Core.Option.{Option, none, some}
use Rattle.std.specs.declared.option.Option as rust
use Prim.Native.Nat.{ℕ, ◌^◌, ◌≤◌, ◌<◌}
use native.Mathlib.Omega.{arith}
use borrow.Author.Tests.{lt-ltb, le-ltb}
use lib.Dec.{eqb}
use lib.ListN.{length}
use Rattle.foundation.specs.Choices.{if_some}
use Rattle.foundation.specs.Results.{ok, ◌from◌}
use Rattle.wire.specs.Wire.{Value, read_field, Message, cut}
use Rattle.wire.specs.Messages.{values, first_of, value, as_varint, as_body, varint_of, as32, index, flag, bytes_of}
use Rattle.wire.specs.told.WireTold.{rest_of, value_of, Inside, FieldTold, value_number, piece_of}
use Rattle.messages.specs.told.Asked.{found_told, FoundInside, FoundTold, FoundFrom, FoundAt, number_told, number_in, piece_in, piece_told, PieceInside, BytesTold, index_in}
use Rattle.std.specs.Prelude.{Some, None}
use Rattle.foundation.specs.declared.Span.{Span}
use Rattle.wire.specs.declared.WireError.{WireError}
use Rattle.wire.specs.declared.WireValue.{WireValue}
use Rattle.wire.specs.declared.WireValue.TheVariants as wire
use Rattle.wire.specs.declared.Field as code
use Rattle.foundation.specs.declared.Read.{Read}
use Rattle.std.specs.Prelude.{Ok, Err}
use Rattle.wire.proofs.WalkLaws.{whole, Leads, leads-next, leads-never, leads-end, values-found, values-passed}

-- from a place on the occurrences of field k are those from the place `start` on
abbrev pub Occur : ℕ → ℕ → List ℕ → ℕ → ℕ → Type 0
Occur k base s start at = Leads (λ m rest. values k m ≡ values k rest) (rest_of base s start) (rest_of base s at)

module _ (k base : ℕ) (s : List ℕ) (start : ℕ) where
  Same : Message → Message → Type 0
  Same m rest = values k m ≡ values k rest

  pub find-start : Occur k base s start start
  find-start m w = (m, w, refl)

  module _ (at : ℕ) (o : Occur k base s start at) where
    pub find-end : length s ≤ at → FoundFrom base s k start None
    unfolding Same values
    find-end h = record { is = λ m w. ap first_of (leads-end Same (rest_of base s start) base s at o h m w); inside = tt }

    pub find-on : {r : rust.Option WireValue} → FoundFrom base s k at r → FoundFrom base s k start r
    find-on t = record { is = λ m w. ap first_of (o m w).2 ∙ t.is (o m w).0 (o m w).1; inside = t.inside }

    module _ (error : WireError) (e : FieldTold base s (read_field (rest_of base s at)) (Err error)) (h : at < length s) where
      pub find-never : FoundFrom base s k start None
      unfolding Same
      find-never = record { is = λ m w. leads-never (rest_of base s start) base s at error e h Same o m w; inside = tt }

    module _ (x : Read code.Field) (e : FieldTold base s (read_field (rest_of base s at)) (Ok x)) (h : at < length s) where
      pub find-found : x.value.number ≡ k → FoundFrom base s k start (Some x.value.value)
      unfolding Same
      find-found q =
          let v = value_of base s x.value.value in
          let Here : Message → Message → Type 0 = λ m rest. values k m ≡ v ∷ values k rest in
          let l = leads-next (rest_of base s start) base s at x e h Same Here o λ m rest c. c ∙ values-found k v rest q in
          record { is = λ m w. ap first_of (l m w).2; inside = e.1 }

      pub find-passed : (x.value.number ≡ k → ⊥) → Occur k base s start x.next
      unfolding Same
      find-passed q =
          leads-next (rest_of base s start) base s at x e h Same Same o λ m rest c. c ∙ values-passed k (value_of base s x.value.value) rest q

  pub find_none : length s ≤ start → FoundFrom base s k start None
  find_none = find-end start find-start

  pub find-here : {r : rust.Option WireValue} → FoundAt s k start r → {v : WireValue} → r ≡ Some v → FoundFrom base s k start r
  find-here {r} t {v} g =
      let f : FoundAt s k start (Some v) = subst (FoundAt s k start) g t in
      let there = find-found start find-start (record { value = record { number = k; value = v }; next = f.1 }) (f.2 base) f.0 refl in
      subst (FoundFrom base s k start) (sym g) there

  -- from the slice's start on it is the first of the whole, and the other way round
  pub find-whole : {r : rust.Option WireValue} → start ≡ 0 → FoundFrom base s k start r → FoundTold base s k r
  find-whole z t = record {
    is = λ m w. t.is m (ap (λ (a : ℕ). cut (rest_of base s a)) z ∙ ap cut (whole base s) ∙ w);
    inside = t.inside;
  }

  pub from-whole : {r : rust.Option WireValue} → start ≡ 0 → FoundTold base s k r → FoundFrom base s k start r
  from-whole z t = record {
    is = λ m w. t.is m (sym (ap (λ (a : ℕ). cut (rest_of base s a)) z ∙ ap cut (whole base s)) ∙ w);
    inside = t.inside;
  }

-- what is made of the first occurrence, as `varint_of` and `bytes_of` are
module _ {A : Type 0} (f : Value → Option A) (k base : ℕ) (s : List ℕ) {r : rust.Option WireValue} (t : FoundTold base s k r) where
  pub asked-nothing : r ≡ None → (m : Message) → cut (◌from◌ base s) ≡ ok m → if_some (value k m) none f ≡ none
  asked-nothing g m w = ap (λ (o : Option Value). if_some o none f) (t.is m w ∙ ap (found_told base s) g)

  pub asked-found : {v : WireValue} {x : Option A} → r ≡ Some v → f (value_of base s v) ≡ x
      → (m : Message) → cut (◌from◌ base s) ≡ ok m → if_some (value k m) none f ≡ x
  asked-found g e m w = ap (λ (o : Option Value). if_some o none f) (t.is m w ∙ ap (found_told base s) g) ∙ e

pub found_inside : (k base : ℕ) (s : List ℕ) {r : rust.Option WireValue} → FoundTold base s k r → {v : WireValue} → r ≡ Some v → Inside s v
found_inside k base s t g = subst (FoundInside s) g t.inside

-- a value as a number and as bytes
pub as_number : (base : ℕ) (s : List ℕ) (v : WireValue) → as_varint (value_of base s v) ≡ number_told (value_number v)
as_number base s (wire.Varint n) = refl
as_number base s (wire.Fixed w n) = refl
as_number base s (wire.Body x) = refl

pub as_piece : (base : ℕ) (s : List ℕ) (v : WireValue) → as_body (value_of base s v) ≡ piece_told base s (piece_of v)
as_piece base s (wire.Varint n) = refl
as_piece base s (wire.Fixed w n) = refl
as_piece base s (wire.Body x) = refl

pub piece_inside : (s : List ℕ) (v : WireValue) → Inside s v → PieceInside s (piece_of v)
piece_inside s (wire.Varint n) h = tt
piece_inside s (wire.Fixed w n) h = tt
piece_inside s (wire.Body x) h = h

module _ (k base : ℕ) (s : List ℕ) {r : rust.Option WireValue} (t : FoundTold base s k r) {v : WireValue} (g : r ≡ Some v) where
  pub varint-found : {x : rust.Option ℕ} → x ≡ value_number v → (m : Message) → cut (◌from◌ base s) ≡ ok m → varint_of k m ≡ number_told x
  unfolding varint_of
  varint-found e = asked-found as_varint k base s t g (as_number base s v ∙ ap number_told (sym e))

  pub bytes-found : {x : rust.Option Span} → x ≡ piece_of v → BytesTold base s k x
  unfolding bytes_of
  bytes-found e = record {
    is = asked-found as_body k base s t g (as_piece base s v ∙ ap (piece_told base s) (sym e));
    inside = subst (PieceInside s) (sym e) (piece_inside s v (found_inside k base s t g));
  }

-- what is made of a number
module _ (k : ℕ) (m : Message) {r : rust.Option ℕ} (e : varint_of k m ≡ number_told r) where
  pub index-nothing : r ≡ None → index k m ≡ none
  unfolding index
  index-nothing g = ap (λ (o : Option ℕ). if_some o none as32) (e ∙ ap number_told g)

  pub flag-nothing : r ≡ None → flag k m ≡ false
  unfolding flag
  flag-nothing g = ap (λ (o : Option ℕ). if_some o false λ v. not (eqb v 0)) (e ∙ ap number_told g)

  module _ {v : ℕ} (g : r ≡ Some v) where
    pub index-large : 4294967295 < v → index k m ≡ none
    unfolding index
    index-large h = ap (λ (o : Option ℕ). if_some o none as32) (e ∙ ap number_told g) ∙ rw (le-ltb v (2 ^ 32) (omega arith))

    pub index-small : v ≤ 4294967295 → index k m ≡ some v
    unfolding index
    index-small h = ap (λ (o : Option ℕ). if_some o none as32) (e ∙ ap number_told g) ∙ rw (lt-ltb v (2 ^ 32) (omega arith))

    pub flag_is : flag k m ≡ not (eqb v 0)
    unfolding flag
    flag_is = ap (λ (o : Option ℕ). if_some o false λ v. not (eqb v 0)) (e ∙ ap number_told g)

-- what is made of what was found
module _ (base : ℕ) (s : List ℕ) (k : ℕ) (m : Message) (w : cut (◌from◌ base s) ≡ ok m) where
  pub number_is : (f : rust.Option WireValue) → FoundTold base s k f → varint_of k m ≡ number_told (number_in f)
  unfolding varint_of
  number_is (Some v) t = ap (λ (o : Option Value). if_some o none as_varint) (t.is m w) ∙ as_number base s v
  number_is None t = ap (λ (o : Option Value). if_some o none as_varint) (t.is m w)

  pub index_is : (f : rust.Option WireValue) → FoundTold base s k f → index k m ≡ index_in f
  unfolding index
  index_is f t = ap (λ (o : Option ℕ). if_some o none as32) (number_is f t)

pub piece_is : (base : ℕ) (s : List ℕ) (k : ℕ) (f : rust.Option WireValue) → FoundTold base s k f → {x : rust.Option Span} → x ≡ piece_in f → BytesTold base s k x
unfolding bytes_of
piece_is base s k (Some v) t e = bytes-found k base s t refl e
piece_is base s k None t e = record {
  is = λ m w. asked-nothing as_body k base s t refl m w ∙ ap (piece_told base s) (sym e);
  inside = subst (PieceInside s) (sym e) tt;
}

-- a number that fits 32 bits, or none
module _ (f : rust.Option WireValue) {x : rust.Option ℕ} (e : x ≡ number_in f) {n : ℕ} (g : x ≡ Some n) where
  pub fits-index : n ≤ 4294967295 → some n ≡ index_in f
  fits-index h = rw (← e, g, lt-ltb n (2 ^ 32) (omega arith))

  pub large-index : 4294967295 < n → none ≡ index_in f
  large-index h = rw (← e, g, le-ltb n (2 ^ 32) (omega arith))
