-- What the steps of reading a property tell.
-- Assumes nothing.
use Rattle.std.specs.Prelude.{◌≡◌, List, [], ◌∷◌, ℕ, ◌^◌, length}
use Rattle.std.proofs.Math.Option.{Option, some}
use Rattle.foundation.specs.Results.{ok, ◌from◌}
use Rattle.fields.specs.Fields.{Property-name, Property-receiver_type, Property-getter_flags, Property-setter_flags, Property-receiver_type_id, Property-flags}
use Rattle.wire.specs.Wire.{Message, cut}
use Rattle.names.specs.told.Name.{named_text}
use Rattle.names.specs.declared.name.Name.{Name}
use Rattle.sheet.specs.Rows.{row}
use Rattle.sheet.specs.told.Put.{PutRows}
use Rattle.sheet.specs.declared.State.{State}
use Rattle.declaration_rows.specs.Declarations.{Ty}
use Rattle.schema.specs.Reading.{Scope, name_in}
use Rattle.schema.specs.Types.{declared_type}
use Rattle.schema.specs.Members.{flags_in, receiver_in, accessor_is_default, property_in}
use Rattle.declaration_rows.specs.Rows.{property_rows}
use Rattle.declaration_rows.specs.told.Written.{signature_by, property_cells}
use Rattle.schema.specs.told.SchemaTold.{Lent, Scoped, PickedTold}
use Rattle.schema.specs.told.MembersTold.{Within, PickedWithin, member_cost}
use Rattle.members.specs.told.SignaturesTold.{PropertySignedTold}
use Rattle.declaration_rows.specs.declared.SignatureNames.{SignatureNames}
use Rattle.members.specs.declared.signatures.PropertyNames.{PropertyNames}
use Rattle.std.specs.declared.result.Result.TheVariants.{Ok}
use Rattle.schema.specs.told.SchemaTold.{Picked}

-- A property's record takes no more than this.
abbrev pub record_cost : ℕ
record_cost = 2 ^ 20

-- A property's record, where its receiver's type is read and its accessors aren't refused.
pub record PropertyRecordTold (e : Lent) (msg : List ℕ) (base : ℕ) (name : Name) (n : PropertyNames) (s s' : State) (S S' T T' : List ℕ) : Type 0 where
  pub spends : Within record_cost s s'
  pub types : s'.types ≡ s.types
  pub is : (c : Scope) (m : Message) → cut (◌from◌ base msg) ≡ ok m
      → (l : ℕ) (o : Option Ty) (b : ℕ) → declared_type c Property-receiver_type Property-receiver_type_id m l ≡ ok (o, b)
      → (g h : SignatureNames) → n.getter ≡ Ok g → n.setter ≡ Ok h
      → PutRows
      (row 4 (
      property_cells (some (named_text e.payload e.d2 name)) (flags_in Property-flags m) (receiver_in o Property-receiver_type_id m)
      (accessor_is_default Property-getter_flags m) (accessor_is_default Property-setter_flags m) (signature_by e.payload e.d2 n.field)
      (signature_by e.payload e.d2 g) (signature_by e.payload e.d2 h))
      ∷ []) s.types s s' S S' T T'

-- A property whose name is there and whose signatures are looked up.
pub record NamedPropertyTold (e : Lent) (msg : List ℕ) (base : ℕ) (name : Name) (n : PropertyNames) (s : State) (r : Picked) (S S' T T' : List ℕ) : Type 0 where
  pub spends : PickedWithin (member_cost (length msg)) s r
  pub is : (c : Scope) → Scoped e c → (m : Message) → cut (◌from◌ base msg) ≡ ok m
      → ((l : ℕ) → name_in c Property-name m l ≡ ok (some (named_text e.payload e.d2 name), l))
      → PropertySignedTold e.payload e.d2 c m (Ok n) → PickedTold (property_in c m s.types) property_rows s r S S' T T'
