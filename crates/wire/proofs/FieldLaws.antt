-- Fixed numbers, bodies, values and fields at a place of a slice: what each reading is by the tests that decide it.
-- Assumes nothing.
use mathlib.Core.Path.{◌≡◌, refl, ap, sym, ◌∙◌}
use mathlib.Core.Bool.{true, false}
use mathlib.Core.List.{List, [], ◌∷◌}
use mathlib.Core.Logic.{⊎_elim}
use Prim.Native.Nat.{ℕ, zero, suc, ◌+◌, ◌-◌, ◌/◌, ◌%◌, ◌^◌, ◌≤◌, ◌<◌}
use native.Mathlib.Nat.{add_assoc, pow-suc, add-sub_cancel_left, pow-le-pow_right}
use native.Mathlib.Omega.{arith}
use borrow.Author.Tests.{lt-ltb, le-ltb, ne_eqb}
use lib.Dec.{ltb}
use lib.ListN.{length, take, drop, get_or, length-take, length-drop}
use lib.Seq.{drop-drop, get_or-drop}
use Rattle.foundation.specs.Results.{Res, refused, Cause, past_its_message, field_too_large, forbidden_field, wire_type, Part, Got, got, map_got}
use Rattle.foundation.specs.Digits.{number}
use Rattle.foundation.proofs.ResultLaws.{gives-ok}
use Rattle.wire.specs.Wire.{read_varint, read_delimited, read_fixed, read_value, read_field, varint, fixed, body, field, is_field_number}
use Rattle.wire.specs.told.WireTold.{wire_refused, rest_of, part_between, ReadAt, varint_told, ValueTold, FieldTold}
use Rattle.wire.specs.declared.WireError.{WireError}
use Rattle.wire.specs.declared.WireError.TheVariants.{VarintCutShort}
use Rattle.wire.specs.declared.WireValue.{WireValue}
use Rattle.foundation.specs.declared.Read.{Read}
use Rattle.std.specs.Prelude.{Result, Ok, Err}
use Rattle.std.proofs.lemmas.Bool.{cases_lt}
use Rattle.wire.proofs.Readers.{After, after-from, varint-after, bytes-there, bytes_past}

-- what is left begins later in the slice, and in it
pub after-inside : {m : ℕ} (base : ℕ) (s : List ℕ) (at next : ℕ) → at ≤ length s → After m (rest_of base s at) (rest_of base s next)
    → (at + m ≤ next) × (next ≤ length s)
after-inside base s at next h a =
    let e : base + next ≡ base + (at + a.taken) = ap (λ (p : Part). p.at) (after-from base at s a) in
    let l : a.taken ≤ length s - at = rw length-drop at a.fits in
    omega (arith, a.least)

-- a number of bytes
pub number-below : (bytes : List ℕ) → ((k : ℕ) → get_or bytes k 0 < 256) → number 256 bytes < 256 ^ length bytes
number-below [] h = omega arith
number-below (b ∷ bs) h =
    let f = number-below bs λ k. h (suc k) in
    rw pow-suc (omega (arith, h 0, f))

front-below : (n : ℕ) (bytes : List ℕ) → ((k : ℕ) → get_or bytes k 0 < 256) → (k : ℕ) → get_or (take n bytes) k 0 < 256
front-below zero bytes h k = omega arith
front-below (suc n) [] h k = h k
front-below (suc n) (b ∷ bs) h zero = h zero
front-below (suc n) (b ∷ bs) h (suc k) = front-below n bs (λ i. h (suc i)) k

-- one of at most eight bytes of a slice
pub fixed-below : (s : List ℕ) (at n : ℕ) → ((k : ℕ) → get_or s k 0 < 256) → n ≤ 8 → number 256 (take n (drop at s)) < 2 ^ 64
fixed-below s at n h l =
    let bytes = take n (drop at s) in
    let few : length bytes ≤ 8 = rw length-take (omega arith) in
    let p : 256 ^ length bytes ≤ 256 ^ 8 = pow-le-pow_right (omega arith) few in
    let each = front-below n (drop at s) λ k. rw (get_or-drop at s k 0) (h (at + k)) in
    omega (arith, number-below bytes each)

module _ (base : ℕ) (s : List ℕ) (at : ℕ) where
  pub fixed-past : (width : ℕ) → length s - at < width → read_fixed width (rest_of base s at) ≡ refused past_its_message (base + at)
  unfolding read_fixed
  fixed-past width h =
      ap (map_got (λ bs. fixed width (number 256 bs.bytes))) (bytes_past (base + at) width (rest_of base s at) (rw length-drop h))

  pub fixed-there : (width : ℕ) {n : ℕ} → width ≤ length s - at → n ≡ number 256 (take width (drop at s))
      → read_fixed width (rest_of base s at) ≡ got (fixed width n) (rest_of base s (at + width))
  unfolding read_fixed
  fixed-there width h e =
      ap (map_got (λ bs. fixed width (number 256 bs.bytes))) (bytes-there (base + at) width (rest_of base s at) (rw length-drop h))
      ∙ rw (e, drop-drop, add_assoc)

  -- the code's answer to a varint there
  module _ {r : Result (Read ℕ) WireError} (e : read_varint (rest_of base s at) ≡ varint_told base s r) where
    pub varint-is : {x : Read ℕ} → r ≡ Ok x → read_varint (rest_of base s at) ≡ got x.value (rest_of base s x.next)
    varint-is g = e ∙ ap (varint_told base s) g

    -- err is the error that the answer holds
    pub varint-refused : {error err : WireError} → r ≡ Err error → err ≡ error → read_varint (rest_of base s at) ≡ wire_refused err
    varint-refused g h = e ∙ ap (varint_told base s) g ∙ ap (wire_refused {A = Got ℕ}) (sym h)

  module _ (x : Read ℕ) (e : read_varint (rest_of base s at) ≡ got x.value (rest_of base s x.next)) where
    pub varint-inside : at ≤ length s → (at + 1 ≤ x.next) × (x.next ≤ length s)
    varint-inside h = after-inside base s at x.next h (gives-ok (λ a. After 1 (rest_of base s at) a.1) e (varint-after (rest_of base s at)))

    pub delimited-past : length s - x.next < x.value → read_delimited (rest_of base s at) ≡ refused past_its_message (base + at)
    unfolding read_delimited
    delimited-past h = rw e (bytes_past (base + at) x.value (rest_of base s x.next) (rw length-drop h))

    pub delimited-there : x.value ≤ length s - x.next
        → read_delimited (rest_of base s at) ≡ got (part_between base s x.next (x.next + x.value)) (rest_of base s (x.next + x.value))
    unfolding read_delimited
    delimited-there h =
        rw e (bytes-there (base + at) x.value (rest_of base s x.next) (rw length-drop h) ∙ rw (drop-drop, add_assoc, add-sub_cancel_left))

-- the answer to a reading at any place
module _ {V X : Type 0} {read : Part → Res V} {Told : Res V → Result X WireError → Type 0} {base : ℕ} {s : List ℕ} {at : ℕ} where
  pub read-inside : {x : X} → ReadAt read Told base s at (Ok x) → at ≤ length s
  read-inside t = ⊎_elim (λ h. let q = t.past h in let z : ◌≡◌ {A = ℕ} 0 1 = cc in absurd (omega arith)) (λ h. h) (cases_lt (length s) at)

  -- a refusal that is handed on
  pub read-past : {Y : Type 0} {error : WireError} → ReadAt read Told base s at (Err error) → length s < at
      → ◌≡◌ {A = Result Y WireError} (Err error) (Err (VarintCutShort (base + length s)))
  read-past t h = let q = t.past h in cc

pub delimited_refused : (p : Part) {c : Cause} {q : ℕ} → read_varint p ≡ refused c q → read_delimited p ≡ refused c q
unfolding read_delimited
delimited_refused p e = rw e

-- a value by its wire type
module _ (place : ℕ) {kind : ℕ} (p : Part) where
  pub value-varint : kind ≡ 0 → read_value place kind p ≡ map_got varint (read_varint p)
  unfolding read_value
  value-varint e = rw e

  pub value-fixed8 : kind ≡ 1 → read_value place kind p ≡ read_fixed 8 p
  unfolding read_value
  value-fixed8 e = rw e

  pub value-body : kind ≡ 2 → read_value place kind p ≡ map_got body (read_delimited p)
  unfolding read_value
  value-body e = rw e

  pub value-fixed4 : kind ≡ 5 → read_value place kind p ≡ read_fixed 4 p
  unfolding read_value
  value-fixed4 e = rw e

  pub value-other : (kind ≡ 0 → ⊥) → (kind ≡ 1 → ⊥) → (kind ≡ 2 → ⊥) → (kind ≡ 5 → ⊥)
      → read_value place kind p ≡ refused (wire_type kind) place
  unfolding read_value
  value-other a b c d = simp (ne_eqb _ _ a, ne_eqb _ _ b, ne_eqb _ _ c, ne_eqb _ _ d)

-- which numbers are field numbers
pub number-zero : (n : ℕ) → n ≡ 0 → false ≡ is_field_number n
number-zero n e = rw e

pub number_bound : (n : ℕ) → (n ≡ 0 → ⊥) → ltb n (2 ^ 29) ≡ is_field_number n
number_bound zero d = absurd (d refl)
number_bound (suc n) d = refl

number_large : (n : ℕ) → 536870911 < n → is_field_number n ≡ false
number_large zero h = absurd (omega arith)
number_large (suc n) h = le-ltb (suc n) (2 ^ 29) (omega arith)

pub number_fine : (n : ℕ) → 0 < n → n ≤ 536870911 → is_field_number n ≡ true
number_fine zero h l = absurd (omega arith)
number_fine (suc n) h l = lt-ltb (suc n) (2 ^ 29) (omega arith)

-- a field by its tag
module _ (p : Part) where
  pub field-refused : {c : Cause} {q : ℕ} → read_varint p ≡ refused c q → read_field p ≡ refused c q
  unfolding read_field
  field-refused e = rw e

  module _ {tag : ℕ} {rest : Part} (e : read_varint p ≡ got tag rest) where
    pub field-large : (tag / 8 < 2 ^ 32 → ⊥) → read_field p ≡ refused field_too_large p.at
    unfolding read_field
    field-large h = rw (e, number_large (tag / 8) (omega arith), le-ltb (tag / 8) (2 ^ 32) (omega arith))

    pub field-forbidden : {n : ℕ} → tag / 8 < 2 ^ 32 → n ≡ tag / 8 → is_field_number n ≡ false → read_field p ≡ refused forbidden_field p.at
    unfolding read_field
    field-forbidden h d f = let g : is_field_number (tag / 8) ≡ false = rw d at f in rw (e, g, lt-ltb (tag / 8) (2 ^ 32) h)

    pub field-value : is_field_number (tag / 8) ≡ true → read_field p ≡ map_got (field (tag / 8)) (read_value p.at (tag % 8) rest)
    unfolding read_field
    field-value f = rw (e, f)

-- a field whose number and value the code has read
module _ (base : ℕ) (s : List ℕ) (at : ℕ) (tag : Read ℕ) {n : ℕ} (e : read_varint (rest_of base s at) ≡ got tag.value (rest_of base s tag.next))
    (d : n ≡ tag.value / 8) (h : is_field_number n ≡ true) where
  told-value : read_field (rest_of base s at) ≡ map_got (field n) (read_value (base + at) (tag.value % 8) (rest_of base s tag.next))
  told-value = rw d (field-value (rest_of base s at) e (rw d at h))

  pub field-not : (error : WireError) → ValueTold base s (read_value (base + at) (tag.value % 8) (rest_of base s tag.next)) (Err error)
      → read_field (rest_of base s at) ≡ wire_refused error
  field-not error t = told-value ∙ ap (map_got (field n)) t

  pub field-read : (x : Read WireValue) → ValueTold base s (read_value (base + at) (tag.value % 8) (rest_of base s tag.next)) (Ok x)
      → FieldTold base s (read_field (rest_of base s at)) (Ok (record { value = record { number = n; value = x.value }; next = x.next }))
  field-read x t = (told-value ∙ ap (map_got (field n)) t.0, t.1)
