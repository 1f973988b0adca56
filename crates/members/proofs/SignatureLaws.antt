-- Signatures by their two names.
-- Assumes nothing.
use mathlib.Core.Path.{◌≡◌, refl, ap, subst, ◌∙◌}
use mathlib.Core.Bool.{true, false}
use mathlib.Core.List.{List}
use mathlib.Core.Option.{Option, none, some}
use Prim.Native.Nat.{ℕ, ◌+◌, ◌-◌}
use native.Mathlib.Omega.{arith}
use lib.ListN.{take, drop}
use Rattle.foundation.specs.Choices.{if_some, is_some, map_option, or_else, both_of}
use Rattle.foundation.specs.Results.{ok, ◌from◌}
use Rattle.foundation.specs.Texts.{Text}
use Rattle.fields.specs.Fields.{Property-property_signature, JvmMethodSignature-desc, JvmPropertySignature-field}
use Rattle.wire.specs.Wire.{Message, cut}
use Rattle.messages.specs.told.Asked.{EmbeddedIs, EmbeddedTold}
use Rattle.wire.specs.declared.WireError.{WireError}
use Rattle.names.specs.told.Name.{name_text}
use Rattle.schema.specs.Reading.{pure, ◌>>=◌, Scope, name_in}
use Rattle.schema.specs.Members.{signature_of, signature_in, field_of, field_in}
use Rattle.declaration_rows.specs.Declarations.{signed}
use Rattle.declaration_rows.specs.told.Written.{signature_by}
use Rattle.members.specs.told.SignaturesTold.{NamesTold, SignedTold, AccessorTold, ThreeTold, PropertySignedTold}
use Rattle.declaration_rows.specs.declared.SignatureNames.{SignatureNames}
use Rattle.members.specs.told.SignaturesTold.{Signed}
use Rattle.members.specs.declared.signatures.PropertyNames.{PropertyNames}
use Rattle.std.specs.declared.option.Option as rust
use Rattle.std.specs.declared.option.Option.TheVariants.{Some, None}
use Rattle.std.specs.Result.{result_unwrap_or}
use Rattle.std.specs.declared.result.Result.{Result}
use Rattle.std.specs.declared.result.Result.TheVariants.{Ok, Err}
use Rattle.foundation.specs.declared.Span.{Span}
use Rattle.messages.specs.told.Asked.{span}

-- A name, or another if it is absent.
pub own_name : (a b : Option Text) → is_some a ≡ true → a ≡ or_else a b
own_name none b e = let z : ◌≡◌ {A = ℕ} 0 1 = cc in absurd (omega arith)
own_name (some t) b e = refl

pub other_name : (a b : Option Text) → is_some a ≡ false → b ≡ or_else a b
other_name none b e = refl
other_name (some t) b e = let z : ◌≡◌ {A = ℕ} 0 1 = cc in absurd (omega arith)

or_none : {A : Type 0} (a : Option A) → or_else a none ≡ a
or_none none = refl
or_none (some x) = refl

undescribed : (a : Option Text) → both_of signed a none ≡ none
undescribed none = refl
undescribed (some t) = refl

-- a message that is there, where a broken one counts as none
pub inner-there : {A E : Type 0} (x : Result (rust.Option A) E) {p : A} → result_unwrap_or x None ≡ Some p → x ≡ Ok (Some p)
inner-there (Ok o) g = ap Ok g
inner-there (Err error) g = let z : ◌≡◌ {A = ℕ} 0 1 = cc in absurd (omega arith)

module _ (payload units : List ℕ) (c : Scope) where
  -- in its own message
  module _ (m : Message) {n : SignatureNames} (h : NamesTold payload units c m n) (l : ℕ) where
    signature-of : (fallback : Option Text)
        → signature_of c fallback m l ≡ ok (both_of signed (or_else (name_text payload units n.name) fallback) (name_text payload units n.descriptor), l)
    unfolding signature_of
    signature-of fallback = rw (h.name l) (go (or_else (name_text payload units n.name) fallback))
      where
        go : (o : Option Text)
            → if_some o (pure none) (λ name. name_in c JvmMethodSignature-desc m >>= λ descriptor. pure (map_option (signed name) descriptor)) l
            ≡ ok (both_of signed o (name_text payload units n.descriptor), l)
        go none = refl
        go (some t) = rw (h.descriptor l)

    field-of : field_of c m l ≡ ok (signature_by payload units n, l)
    unfolding field_of
    field-of = rw (h.name l, h.descriptor l)

  -- in a field of a message
  module _ {base : ℕ} {msg : List ℕ} {m : Message} (k : cut (◌from◌ base msg) ≡ ok m) where
    here : {number : ℕ} {x y : Result (rust.Option Span) WireError} → EmbeddedTold base msg number x → x ≡ y → EmbeddedIs base msg number m y
    here {number} t g = subst (EmbeddedIs base msg number m) g (t.is m k)

    module _ {number : ℕ} {x : Result (rust.Option Span) WireError} (t : EmbeddedTold base msg number x) where
      pub signed-inline : {a b : ℕ} → x ≡ Ok (Some (span a b)) → {n : SignatureNames}
          → ((m : Message) → cut (◌from◌ (base + a) (take (b - a) (drop a msg))) ≡ ok m → NamesTold payload units c m n)
          → SignedTold payload units c number m (Ok n)
      unfolding signature_in
      signed-inline g h fallback l = let i = here t g in rw i.2 (signature-of i.0 (h i.0 i.1) l fallback)

      pub signed-nothing : x ≡ Ok None → (n : SignatureNames) → n.descriptor ≡ None → SignedTold payload units c number m (Ok n)
      unfolding signature_in
      signed-nothing g n h fallback l =
          rw (here t g, h, undescribed (or_else (name_text payload units n.name) fallback))

      pub signed-refused : {error : WireError} → x ≡ Err error → SignedTold payload units c number m (Err error)
      unfolding signature_in
      signed-refused g fallback l = rw (here t g)

    module _ {x : Result (rust.Option Span) WireError} (t : EmbeddedTold base msg JvmPropertySignature-field x) (l : ℕ) where
      pub field-inline : {a b : ℕ} → x ≡ Ok (Some (span a b)) → {n : SignatureNames}
          → ((m : Message) → cut (◌from◌ (base + a) (take (b - a) (drop a msg))) ≡ ok m → NamesTold payload units c m n)
          → field_in c m l ≡ ok (signature_by payload units n, l)
      unfolding field_in
      field-inline g h = let i = here t g in rw i.2 (field-of i.0 (h i.0 i.1) l)

    -- without a message, or with a broken one
    pub field-absent : (x : Result (rust.Option Span) WireError) → EmbeddedTold base msg JvmPropertySignature-field x → result_unwrap_or x None ≡ None → (l : ℕ)
        → (n : SignatureNames) → n.name ≡ None → field_in c m l ≡ ok (signature_by payload units n, l)
    unfolding field_in
    field-absent (Ok o) t g l n h = rw (here t (ap Ok g), h)
    field-absent (Err error) t g l n h = rw (here t refl, h)

  -- Without a name to fall back to; a constructor's; with one that is looked up.
  module _ (number : ℕ) (m : Message) (n : SignatureNames) (h : SignedTold payload units c number m (Ok n)) (l : ℕ) where
    pub signature-by : signature_in c none number m l ≡ ok (signature_by payload units n, l)
    signature-by =
        h none l ∙ ap (λ (o : Option Text). ok (both_of signed o (name_text payload units n.descriptor), l)) (or_none (name_text payload units n.name))

  -- The signatures of a property: of its signature message, of none, and of its own message.
  pub accessor-told : (number : ℕ) (m : Message) (x : Signed) → SignedTold payload units c number m x → AccessorTold payload units c (some m) number x
  accessor-told number m (Ok n) h = λ l. signature-by number m n h l
  accessor-told number m (Err error) h = λ l. h none l

  module _ {base : ℕ} {msg : List ℕ} {m : Message} (k : cut (◌from◌ base msg) ≡ ok m) {x : Result (rust.Option Span) WireError}
      (t : EmbeddedTold base msg Property-property_signature x) where
    pub property-nothing : x ≡ Ok None → (n : PropertyNames) → ThreeTold payload units c none n
        → PropertySignedTold payload units c m (Ok n)
    property-nothing g n h = (none, here k t g, h)
