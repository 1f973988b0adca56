-- Properties: what is read of one in which order, its record, and the property that both come to.
-- Assumes nothing.
use mathlib.Core.Path.{◌≡◌, sym, subst}
use mathlib.Core.Bool.{Bool}
use mathlib.Core.List.{List, [], ◌∷◌, append-nil}
use mathlib.Core.Logic.{⊎_elim}
use mathlib.Core.Option.{Option, none, some}
use Prim.Native.Nat.{ℕ, ◌+◌, ◌^◌, ◌≤◌}
use native.Mathlib.Omega.{arith}
use lib.ListN.{length, length-append}
use Rattle.foundation.specs.Choices.{All}
use Rattle.foundation.specs.Results.{ok, ◌from◌}
use Rattle.foundation.specs.Texts.{Text}
use Rattle.fields.specs.Fields.{Property-name, Property-return_type, Property-receiver_type, Property-getter_flags, Property-setter_flags, Property-return_type_id, Property-receiver_type_id, Property-flags, Property-property_signature, JvmPropertySignature-getter, JvmPropertySignature-setter}
use Rattle.wire.specs.Wire.{Message, cut}
use Rattle.wire.specs.Messages.{message}
use Rattle.wire.specs.told.WireTold.{wire_refused}
use Rattle.wire.specs.declared.WireError.{WireError}
use Rattle.names.specs.told.Name.{named_text}
use Rattle.names.specs.declared.name.Name.{Name}
use Rattle.sheet.specs.Rows.{Cell, num, ref, cell_text, cell_bytes, row, body_bytes, body_text, sheet_from, texts}
use Rattle.sheet.specs.told.Put.{PutHead, PutRows}
use Rattle.sheet.specs.declared.State.{State}
use Rattle.sheet.proofs.RowLaws.{cell-length}
use Rattle.sheet.proofs.PutLaws.{put-sheet, put-text, put-types, put_same, rows_then}
use Rattle.declaration_rows.specs.Declarations.{Ty, Signature, Property}
use Rattle.schema.specs.Reading.{Scope, name_in}
use Rattle.schema.specs.Types.{declared_type}
use Rattle.schema.specs.Members.{flags_in, field_in, signature_in, of_signature, receiver_in, accessor_is_default, property_in}
use Rattle.declaration_rows.specs.Rows.{return_role, receiver_role, type_rows, property_rows}
use Rattle.declaration_rows.specs.told.Written.{RecordRoom, cell_limit, signature_by, property_cells}
use Rattle.schema.specs.told.SchemaTold.{Lent, Scoped, stop_refused, WalkedSpends, WalkedTold}
use Rattle.schema.specs.told.MembersTold.{Within, member_cost, MemberTold}
use Rattle.type_references.specs.told.OptionalTold.{OptionalTold}
use Rattle.members.specs.told.SignaturesTold.{AccessorTold, PropertySignedTold, AccessorsDue}
use Rattle.members.specs.told.PropertiesTold.{record_cost, PropertyRecordTold, NamedPropertyTold}
use Rattle.schema.specs.declared.Stop.{Stop}
use Rattle.schema.specs.declared.Stop.TheVariants as stop
use Rattle.declaration_rows.specs.declared.SignatureNames.{SignatureNames}
use Rattle.members.specs.told.SignaturesTold.{Signed}
use Rattle.members.specs.declared.signatures.PropertyNames.{PropertyNames}
use Rattle.members.specs.told.SignaturesTold.{PropertySigned}
use Rattle.declaration_rows.proofs.WrittenLaws.{SmallCell, property-small}
use Rattle.declaration_rows.proofs.RecordLaws.{property-put}
use Rattle.schema.proofs.CountLaws.{within_both, spends-within}
use Rattle.std.specs.declared.option.Option.TheVariants.{Some}
use Rattle.std.specs.declared.result.Result.{Result}
use Rattle.std.specs.declared.result.Result.TheVariants.{Ok, Err}
use Rattle.schema.specs.told.SchemaTold.{Walked}

-- What the cells of a record take at most: a number its width, a name what a cell may take.
abbrev cost_of : List Cell → ℕ
cost_of [] = 0
cost_of (num w n ∷ cs) = w + cost_of cs
cost_of (ref t ∷ cs) = cell_limit + cost_of cs

cells_cost : (cs : List Cell) (o : ℕ) → All SmallCell cs → length (body_bytes o cs) + length (body_text cs) ≤ cost_of cs
unfolding body_bytes body_text
cells_cost [] o h = omega arith
cells_cost (num w n ∷ cs) o h =
    let p = o + length (cell_text (num w n)) in
    omega (arith, cell-length o (num w n), cells_cost cs p h.1, length-append (cell_bytes o (num w n)) (body_bytes p cs))
cells_cost (ref t ∷ cs) o h =
    let p = o + length (cell_text (ref t)) in
    omega (
      arith,
      h.0,
      cell-length o (ref t),
      cells_cost cs p h.1,
      length-append (cell_bytes o (ref t)) (body_bytes p cs),
      length-append (cell_text (ref t)) (body_text cs),
    )

row_cost : (k : ℕ) (cs : List Cell) (n : ℕ) → All SmallCell cs → 1 + cost_of cs ≤ n → {s s' : State} {S S' T T' : List ℕ}
    → PutRows (row k cs ∷ []) s.types s s' S S' T T' → Within n s s'
unfolding sheet_from texts
row_cost k cs n small l {s} {s'} {S} {S'} {T} {T'} p =
    let h : PutHead k cs s.types s s' S S' T T' = put_same p (rw append-nil) (rw append-nil) in
    record {
      counts = omega (arith, put-sheet h, put-text h, put-types h, cells_cost cs s.text small);
      types = omega (arith, put-types h);
    }

-- A property's record by what was looked up for it.
module _ (e : Lent) (msg : List ℕ) (base : ℕ) (name : Name) (n : PropertyNames) {s s' : State} {S S' T T' : List ℕ} (room : RecordRoom (2 ^ 61) e.payload e.d2 s) where
  pub record-told : {flags : ℕ} {receiver getter_default setter_default : Bool} (g' h' : SignatureNames)
      → ((m : Message) → cut (◌from◌ base msg) ≡ ok m → flags_in Property-flags m ≡ flags)
      → ((c : Scope) (m : Message) (l : ℕ) (o : Option Ty) (b : ℕ) → cut (◌from◌ base msg) ≡ ok m
      → declared_type c Property-receiver_type Property-receiver_type_id m l ≡ ok (o, b) → receiver_in o Property-receiver_type_id m ≡ receiver)
      → ((m : Message) → cut (◌from◌ base msg) ≡ ok m → accessor_is_default Property-getter_flags m ≡ getter_default)
      → ((m : Message) → cut (◌from◌ base msg) ≡ ok m → accessor_is_default Property-setter_flags m ≡ setter_default)
      → ((x : SignatureNames) → n.getter ≡ Ok x → g' ≡ x) → ((x : SignatureNames) → n.setter ≡ Ok x → h' ≡ x)
      → PutRows
      (row 4 (
      property_cells (some (named_text e.payload e.d2 name)) flags receiver getter_default setter_default (signature_by e.payload e.d2 n.field)
      (signature_by e.payload e.d2 g') (signature_by e.payload e.d2 h'))
      ∷ []) s.types s s' S S' T T'
      → PropertyRecordTold e msg base name n s s' S S' T T'
  record-told {flags} {receiver} {getter_default} {setter_default} g' h' fl rc gd sd gn hn p = record {
    spends =
        row_cost 4
        (property_cells (some (named_text e.payload e.d2 name)) flags receiver getter_default setter_default (signature_by e.payload e.d2 n.field)
        (signature_by e.payload e.d2 g') (signature_by e.payload e.d2 h'))
        record_cost (property-small room (Some name) flags receiver getter_default setter_default n.field g' h') (omega arith) p;
    types = put-types p;
    is = λ c m k l o b d g h eg eh.
        same (sym (fl m k)) (sym (rc c m l o b k d)) (sym (gd m k)) (sym (sd m k)) (gn g eg) (hn h eh) p;
  }
    where
      same : {f f₂ : ℕ} {r r₂ a a₂ b b₂ : Bool} {x x₂ y y₂ : SignatureNames} → f ≡ f₂ → r ≡ r₂ → a ≡ a₂ → b ≡ b₂ → x ≡ x₂ → y ≡ y₂
          → PutRows
          (row 4 (
          property_cells (some (named_text e.payload e.d2 name)) f r a b (signature_by e.payload e.d2 n.field) (signature_by e.payload e.d2 x) (signature_by e.payload e.d2 y))
          ∷ []) s.types s s' S S' T T'
          → PutRows
          (row 4 (
          property_cells (some (named_text e.payload e.d2 name)) f₂ r₂ a₂ b₂ (signature_by e.payload e.d2 n.field) (signature_by e.payload e.d2 x₂) (signature_by e.payload e.d2 y₂))
          ∷ []) s.types s s' S S' T T'
      same e₁ e₂ e₃ e₄ e₅ e₆ h = rw (← e₁, ← e₂, ← e₃, ← e₄, ← e₅, ← e₆) h

-- What a property is, once all of it is read.
abbrev property_of : Message → Text → Option Signature → Option Signature → Option Signature → Option Ty → Option Ty → Property
property_of m name field getter setter receiver type = record {
  name = name;
  flags = flags_in Property-flags m;
  field = field;
  getter = getter;
  setter = setter;
  getter_is_default = accessor_is_default Property-getter_flags m;
  setter_is_default = accessor_is_default Property-setter_flags m;
  has_receiver = receiver_in receiver Property-receiver_type_id m;
  receiver = receiver;
  type = type;
}

-- What is read of it, step by step: without a name; by its signature message; its receiver; its accessors; its type.
module _ (c : Scope) (m : Message) (l : ℕ) where
  pub property-nameless : name_in c Property-name m l ≡ ok (none, l) → property_in c m l ≡ ok (none, l)
  unfolding property_in
  property-nameless e = rw e

  module _ {t : Text} (named : name_in c Property-name m l ≡ ok (some t, l)) where
    property-broken : (error : WireError) → message Property-property_signature m ≡ wire_refused error → property_in c m l ≡ wire_refused error
    unfolding property_in
    property-broken error e = rw (named, e)

    module _ {signature : Option Message} (signed : message Property-property_signature m ≡ ok signature) {f : Option Signature}
        (field : of_signature (field_in c) signature l ≡ ok (f, l)) where
      receiver-refused : (stop : Stop) → declared_type c Property-receiver_type Property-receiver_type_id m l ≡ stop_refused stop
          → property_in c m l ≡ stop_refused stop
      unfolding property_in
      receiver-refused stop e = rw (named, signed, field, e)

      module _ {receiver : Option Ty} {b : ℕ} (received : declared_type c Property-receiver_type Property-receiver_type_id m l ≡ ok (receiver, b)) where
        getter-refused : (error : WireError) → of_signature (signature_in c none JvmPropertySignature-getter) signature b ≡ wire_refused error
            → property_in c m l ≡ wire_refused error
        unfolding property_in
        getter-refused error e = rw (named, signed, field, received, e)

        module _ {g : Option Signature} (getter : of_signature (signature_in c none JvmPropertySignature-getter) signature b ≡ ok (g, b)) where
          setter-refused : (error : WireError) → of_signature (signature_in c none JvmPropertySignature-setter) signature b ≡ wire_refused error
              → property_in c m l ≡ wire_refused error
          unfolding property_in
          setter-refused error e = rw (named, signed, field, received, getter, e)

          module _ {h : Option Signature} (setter : of_signature (signature_in c none JvmPropertySignature-setter) signature b ≡ ok (h, b)) where
            type-refused : (stop : Stop) → declared_type c Property-return_type Property-return_type_id m b ≡ stop_refused stop
                → property_in c m l ≡ stop_refused stop
            unfolding property_in
            type-refused stop e = rw (named, signed, field, received, getter, setter, e)

            property-read : {type : Option Ty} {k : ℕ} → declared_type c Property-return_type Property-return_type_id m b ≡ ok (type, k)
                → property_in c m l ≡ ok (some (property_of m t f g h receiver type), k)
            unfolding property_in
            property-read e = rw (named, signed, field, received, getter, setter, e)

-- A property whose name is there: its record is written, then its receiver's type, then its own.
module _ (e : Lent) (msg : List ℕ) (base : ℕ) (name : Name) (n : PropertyNames) (s : State) {s₁ : State} {S S₁ T T₁ : List ℕ}
    (head : PropertyRecordTold e msg base name n s s₁ S S₁ T T₁) {x : Walked} {S₂ T₂ : List ℕ}
    (first : OptionalTold e msg base Property-receiver_type Property-receiver_type_id receiver_role s₁ x S₁ S₂ T₁ T₂) where
  module _ (c : Scope) (o : Option Message) (number : ℕ) (w : Signed) (h : AccessorTold e.payload e.d2 c o number w) (l : ℕ) where
    accessor-there : (v : SignatureNames) → w ≡ Ok v
        → of_signature (signature_in c none number) o l ≡ ok (signature_by e.payload e.d2 v, l)
    accessor-there v p = subst (AccessorTold e.payload e.d2 c o number) p h l

    accessor-refused : (error : WireError) → w ≡ Err error → of_signature (signature_in c none number) o l ≡ wire_refused error
    accessor-refused error p = subst (AccessorTold e.payload e.d2 c o number) p h l

  received : {y : Walked} → x ≡ y → (c : Scope) → Scoped e c → (m : Message) → cut (◌from◌ base msg) ≡ ok m
      → WalkedTold (declared_type c Property-receiver_type Property-receiver_type_id m s.types) (type_rows receiver_role) s₁ y S₁ S₂ T₁ T₂
  received {y} g c o m k =
      subst (λ (l : ℕ). WalkedTold (declared_type c Property-receiver_type Property-receiver_type_id m l) (type_rows receiver_role) s₁ y S₁ S₂ T₁ T₂)
      head.types
      (subst (λ (w : Walked). WalkedTold (declared_type c Property-receiver_type Property-receiver_type_id m s₁.types) (type_rows receiver_role) s₁ w S₁ S₂ T₁ T₂)
      g (first.is c o m k))

  pub named-unreceived : {stop : Stop} → x ≡ Err stop → NamedPropertyTold e msg base name n s (Err stop) S S₂ T T₂
  named-unreceived {stop} g = record {
    spends = tt;
    is = λ c o m k named signed.
        let l = s.types in receiver-refused c m l (named l) signed.1 (signed.2.field l) stop (received g c o m k);
  }

  module _ {s₂ : State} (g : x ≡ Ok s₂) {y : Result Unit WireError} (due : AccessorsDue n y) where
    pub named-unsigned : {error : WireError} → y ≡ Err error
        → NamedPropertyTold e msg base name n s (Err (stop.Wire error)) S S₂ T T₂
    named-unsigned {error} f = record {
      spends = tt;
      is = λ c o m k named signed.
          let l = s.types in
          let r = received g c o m k in
          let three = signed.2 in
          ⊎_elim
          (λ p.
          getter-refused c m l (named l) signed.1 (three.field l) r.2 error
          (accessor-refused c signed.0 JvmPropertySignature-getter n.getter three.getter r.1 error p))
          (λ p.
          setter-refused c m l (named l) signed.1 (three.field l) r.2
          (accessor-there c signed.0 JvmPropertySignature-getter n.getter three.getter r.1 p.0 p.1) error
          (accessor-refused c signed.0 JvmPropertySignature-setter n.setter three.setter r.1 error p.2))
          (subst (AccessorsDue n) f due);
    }

    module _ (f : y ≡ Ok tt) {z : Walked} {S₃ T₃ : List ℕ}
        (last : OptionalTold e msg base Property-return_type Property-return_type_id return_role s₂ z S₂ S₃ T₂ T₃) where
      both : AccessorsDue n (Ok tt)
      both = subst (AccessorsDue n) f due

      typed : {w : Walked} → z ≡ w → (c : Scope) → Scoped e c → (m : Message) → cut (◌from◌ base msg) ≡ ok m → (b : ℕ) → s₂.types ≡ b
          → WalkedTold (declared_type c Property-return_type Property-return_type_id m b) (type_rows return_role) s₂ w S₂ S₃ T₂ T₃
      typed {w} p c o m k b q =
          subst (λ (l : ℕ). WalkedTold (declared_type c Property-return_type Property-return_type_id m l) (type_rows return_role) s₂ w S₂ S₃ T₂ T₃) q
          (subst (λ (v : Walked). WalkedTold (declared_type c Property-return_type Property-return_type_id m s₂.types) (type_rows return_role) s₂ v S₂ S₃ T₂ T₃)
          p (last.is c o m k))

      pub named-untyped : {stop : Stop} → z ≡ Err stop → NamedPropertyTold e msg base name n s (Err stop) S S₃ T T₃
      unfolding both
      named-untyped {stop} p = record {
        spends = tt;
        is = λ c o m k named signed.
            let l = s.types in
            let r = received g c o m k in
            let three = signed.2 in
            type-refused c m l (named l) signed.1 (three.field l) r.2
            (accessor-there c signed.0 JvmPropertySignature-getter n.getter three.getter r.1 both.0 both.2)
            (accessor-there c signed.0 JvmPropertySignature-setter n.setter three.setter r.1 both.1 both.3)
            stop (typed p c o m k r.1 (put-types r.3));
      }

      pub named-done : {s₃ : State} → z ≡ Ok s₃ → NamedPropertyTold e msg base name n s (Ok (Some s₃)) S S₃ T T₃
      unfolding both
      named-done {s₃} p = record {
        spends =
            let a = spends-within (subst (WalkedSpends s₁) g first.spends) in
            let b = spends-within (subst (WalkedSpends s₂) p last.spends) in
            within_both (member_cost (length msg)) (omega arith) head.spends (within_both 0 (omega arith) a b);
        is = λ c o m k named signed.
            let l = s.types in
            let r = received g c o m k in
            let three = signed.2 in
            let u = typed p c o m k r.1 (put-types r.3) in
            let f' = signature_by e.payload e.d2 n.field in
            let g' = signature_by e.payload e.d2 both.0 in
            let h' = signature_by e.payload e.d2 both.1 in
            let it = property_of m (named_text e.payload e.d2 name) f' g' h' r.0 u.0 in
            let is = property-read c m l (named l) signed.1 (three.field l) r.2
            (accessor-there c signed.0 JvmPropertySignature-getter n.getter three.getter r.1 both.0 both.2)
            (accessor-there c signed.0 JvmPropertySignature-setter n.setter three.setter r.1 both.1 both.3) u.2 in
            let cells = head.is c m k l r.0 r.1 r.2 both.0 both.1 both.2 both.3 in
            let types = rows_then (type_rows receiver_role r.0) (type_rows return_role u.0) r.3 u.3 in
            (it, u.1, is, property-put it cells types);
      }

-- A property by its name and its signatures.
module _ {e : Lent} {msg : List ℕ} {base : ℕ} {s : State} (name : Name)
    (named : (c : Scope) → Scoped e c → (m : Message) → cut (◌from◌ base msg) ≡ ok m → (l : ℕ)
    → name_in c Property-name m l ≡ ok (some (named_text e.payload e.d2 name), l)) {x : PropertySigned}
    (signed : (c : Scope) → Scoped e c → (m : Message) → cut (◌from◌ base msg) ≡ ok m → PropertySignedTold e.payload e.d2 c m x) where
  pub property-unsigned : {error : WireError} → x ≡ Err error → {S S' T T' : List ℕ}
      → MemberTold property_in property_rows (member_cost (length msg)) e msg base s (Err (stop.Wire error)) S S' T T'
  property-unsigned {error} g = record {
    spends = tt;
    is = λ c o m k. property-broken c m s.types (named c o m k s.types) error (subst (PropertySignedTold e.payload e.d2 c m) g (signed c o m k));
  }
