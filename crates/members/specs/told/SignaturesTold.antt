-- What the readers of signatures tell.
-- Assumes nothing.
use Rattle.std.specs.Prelude.{◌≡◌, List, ◌⊎◌, ℕ}
use Rattle.std.proofs.Math.Option.{Option, none}
use Rattle.foundation.specs.Choices.{or_else, both_of}
use Rattle.foundation.specs.Results.{ok}
use Rattle.foundation.specs.Texts.{Text}
use Rattle.fields.specs.Fields.{Property-property_signature, JvmMethodSignature-name, JvmMethodSignature-desc, JvmPropertySignature-getter, JvmPropertySignature-setter}
use Rattle.wire.specs.Wire.{Message}
use Rattle.wire.specs.Messages.{message}
use Rattle.wire.specs.told.WireTold.{wire_refused}
use Rattle.names.specs.told.Name.{name_text}
use Rattle.schema.specs.Reading.{Scope, name_in}
use Rattle.schema.specs.Members.{signature_in, field_in, of_signature}
use Rattle.declaration_rows.specs.Declarations.{signed}
use Rattle.declaration_rows.specs.told.Written.{signature_by}
use Rattle.declaration_rows.specs.declared.SignatureNames.{SignatureNames}
use Rattle.members.specs.declared.signatures.PropertyNames.{PropertyNames}
use Rattle.std.specs.declared.result.Result.{Result}
use Rattle.std.specs.declared.result.Result.TheVariants.{Ok, Err}
use Rattle.wire.specs.declared.WireError.{WireError}

-- the answers of the readers of signatures
abbrev pub Signed : Type 0
Signed = Result SignatureNames WireError

abbrev pub PropertySigned : Type 0
PropertySigned = Result PropertyNames WireError

-- The names at the two indices of a signature's message m. A field's signature has them in the same fields as a method's.
pub record NamesTold (payload units : List ℕ) (c : Scope) (m : Message) (n : SignatureNames) : Type 0 where
  pub name : (l : ℕ) → name_in c JvmMethodSignature-name m l ≡ ok (name_text payload units n.name, l)
  pub descriptor : (l : ℕ) → name_in c JvmMethodSignature-desc m l ≡ ok (name_text payload units n.descriptor, l)

-- A signature in field `number` of a message m, whatever its name falls back to: by its two names, or refused.
abbrev pub SignedTold : List ℕ → List ℕ → Scope → ℕ → Message → Signed → Type 0
SignedTold payload units c number m (Ok n) =
    (fallback : Option Text) (l : ℕ)
    → signature_in c fallback number m l
    ≡ ok (both_of signed (or_else (name_text payload units n.name) fallback) (name_text payload units n.descriptor), l)
SignedTold payload units c number m (Err error) = (fallback : Option Text) (l : ℕ) → signature_in c fallback number m l ≡ wire_refused error

-- A signature in field `number` of a property's signature message, if there is such a message. It has no name to fall back to.
abbrev pub AccessorTold : List ℕ → List ℕ → Scope → Option Message → ℕ → Signed → Type 0
AccessorTold payload units c o number (Ok n) =
    (l : ℕ) → of_signature (signature_in c none number) o l ≡ ok (signature_by payload units n, l)
AccessorTold payload units c o number (Err error) = (l : ℕ) → of_signature (signature_in c none number) o l ≡ wire_refused error

-- the three signatures of a property by its signature message
pub record ThreeTold (payload units : List ℕ) (c : Scope) (o : Option Message) (n : PropertyNames) : Type 0 where
  pub field : (l : ℕ) → of_signature (field_in c) o l ≡ ok (signature_by payload units n.field, l)
  pub getter : AccessorTold payload units c o JvmPropertySignature-getter n.getter
  pub setter : AccessorTold payload units c o JvmPropertySignature-setter n.setter

-- the same by the property's own message m
abbrev pub PropertySignedTold : List ℕ → List ℕ → Scope → Message → PropertySigned → Type 0
PropertySignedTold payload units c m (Ok n) =
    (o : Option Message) × (message Property-property_signature m ≡ ok o) × ThreeTold payload units c o n
PropertySignedTold payload units c m (Err error) = message Property-property_signature m ≡ wire_refused error

-- Whether both accessors are there, or which refusal is due first.
abbrev pub AccessorsDue : PropertyNames → Result Unit WireError → Type 0
AccessorsDue n (Ok u) =
    (g : SignatureNames) × (h : SignatureNames) × (n.getter ≡ Ok g) × (n.setter ≡ Ok h)
AccessorsDue n (Err error) =
    (n.getter ≡ Err error) ⊎ ((g : SignatureNames) × (n.getter ≡ Ok g) × (n.setter ≡ Err error))
