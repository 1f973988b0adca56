-- `MarksIn` of each definition that a body is read by, put together from those of its parts, one law each, in the order of the definitions.
-- Assumes nothing.
use mathlib.Core.Path.{◌≡◌, refl, ap, sym, ◌∙◌}
use mathlib.Core.Bool.{Bool, true, false}
use mathlib.Core.List.{List}
use mathlib.Core.Option.{Option, none, some}
use Prim.Native.Nat.{ℕ}
use native.Mathlib.Omega.{arith}
use Rattle.foundation.specs.Choices.{is_some, or_else}
use Rattle.foundation.specs.Results.{Res, ok, ◌from◌}
use Rattle.foundation.specs.Texts.{Text, ascii}
use Rattle.fields.specs.Fields.{Class-fq_name, Constructor-value_parameter, Constructor-constructor_signature, Function-name, Function-return_type, Function-receiver_type, Function-value_parameter, Function-return_type_id, Function-receiver_type_id, Function-method_signature, Property-name, Property-return_type, Property-receiver_type, Property-return_type_id, Property-receiver_type_id, Property-property_signature, TypeAlias-name, TypeAlias-underlying_type, TypeAlias-underlying_type_id, TypeAlias-expanded_type, TypeAlias-expanded_type_id, ValueParameter-name, ValueParameter-type, ValueParameter-vararg_element_type, ValueParameter-type_id, ValueParameter-vararg_element_type_id, JvmMethodSignature-name, JvmMethodSignature-desc, JvmFieldSignature-name, JvmFieldSignature-desc, JvmPropertySignature-getter, JvmPropertySignature-setter}
use Rattle.wire.specs.Wire.{Message, cut}
use Rattle.wire.specs.Messages.{message}
use Rattle.schema.specs.Reading.{Read, pure, ◌>>=◌, Scope, name_in}
use Rattle.schema.specs.Members.{signature_of, field_of, parameter_in, parameters_in, constructor_in, function_in, property_in, alias_in, Head, head_in, constructors_in, list_in, function_field, property_field, alias_field, lists_in, after_table}
use Rattle.schema.specs.told.SchemaTold.{Lent, NamesOf}
use Rattle.string_marks.specs.told.MarksTold.{MarksIn, NameMarked, DeclaredMarked, SignatureMarked, SignatureInMarked, FieldMarked, AccessorMarked}
use Rattle.string_marks.proofs.MarkLaws.{marks-same, marks_bind, marks-made, marks-known, marks-cut, marks-if_some}

-- The name in a field of a message, by what is lent.
abbrev pub NameRead : Lent → ℕ → List ℕ → (number : ℕ) → Option Text → Type 0
NameRead e base msg number t =
    (s : Scope) → NamesOf e.payload e.d2 e.ends e.notes e.tables.records s.names → (m : Message) → cut (◌from◌ base msg) ≡ ok m → (l : ℕ)
    → name_in s number m l ≡ ok (t, l)

as-known : {t o : Option Text} (l : ℕ) → t ≡ o → ◌≡◌ {A = Res (Option Text × ℕ)} (ok (t, l)) (ok (o, l))
as-known l e = ap (λ x. ok (x, l)) e

none-some : {t : Text} {C : Type 0} → ◌≡◌ {A = Option Text} none (some t) → C
none-some e = let z : ◌≡◌ {A = ℕ} 0 1 = cc in absurd (omega arith)

module _ {e : Lent} {base : ℕ} {msg : List ℕ} where
  -- What looks nothing up marks nothing.
  pub in-same : {A : Type 0} (read : Message → Read A) (u : List ℕ) → MarksIn e base msg (λ c. read) u u
  in-same read u = record { is = λ records table o m c. marks-same (read m) u }

  pub in-bind : {A B : Type 0} {r : Scope → Message → Read A} {f : Scope → Message → A → Read B} {u v w : List ℕ} → MarksIn e base msg r u v
      → ((a : A) → MarksIn e base msg (λ c m. f c m a) v w) → MarksIn e base msg (λ c m. r c m >>= f c m) u w
  in-bind g h = record { is = λ records table o m c. marks_bind (g.is records table o m c) λ l l' a q. (h a).is records table o m c }

  -- A signature: its name, and its descriptor where there is a name to fall back to,
  pub signature-falls-back : {u v w : List ℕ} → NameMarked e base msg JvmMethodSignature-name u v → NameMarked e base msg JvmMethodSignature-desc v w
      → SignatureMarked e base msg true u w
  unfolding signature_of
  signature-falls-back {u} {v} {w} g h fallback q = record {
    is = λ records table o m c.
        marks_bind (g.name.is records table o m c) λ l l' own p.
        marks-if_some (or_else own fallback) (λ z. none-given own fallback q z)
        λ name z. marks-made _ (h.name.is records table o m c);
  }
    where
      none-given : {C : Type 0} (own fallback : Option Text) → is_some fallback ≡ true → or_else own fallback ≡ none → C
      none-given none none q z = let y : ◌≡◌ {A = ℕ} 0 1 = cc in absurd (omega arith)
      none-given none (some t) q z = none-some (sym z)
      none-given (some t) fallback q z = none-some (sym z)

  -- or a name of its own;
  pub signature-own : {u v w : List ℕ} {t : Option Text} (name : Text) (falls_back : Bool) → NameRead e base msg JvmMethodSignature-name t → t ≡ some name
      → NameMarked e base msg JvmMethodSignature-name u v → NameMarked e base msg JvmMethodSignature-desc v w → SignatureMarked e base msg falls_back u w
  unfolding signature_of
  signature-own name falls_back k q g h fallback z = record {
    is = λ records table o m c.
        marks-known _ {t = some name} (λ l. k _ o.names m c l ∙ as-known l q) (g.name.is records table o m c)
        (marks-made _ (h.name.is records table o m c));
  }

  -- else its name alone.
  pub signature-short : {u v : List ℕ} {t : Option Text} → NameRead e base msg JvmMethodSignature-name t → t ≡ none
      → NameMarked e base msg JvmMethodSignature-name u v → SignatureMarked e base msg false u v
  unfolding signature_of
  signature-short {u} {v} k q g fallback z = record {
    is = λ records table o m c.
        marks-known _ {t = none} (λ l. k _ o.names m c l ∙ as-known l q) (g.name.is records table o m c)
        (marks-if_some fallback (λ y. marks-same (pure none) v) λ name y. given fallback z y);
  }
    where
      given : {C : Type 0} {name : Text} (fallback : Option Text) → is_some fallback ≡ false → fallback ≡ some name → C
      given none z y = none-some y
      given (some t) z y = let x : ◌≡◌ {A = ℕ} 0 1 = cc in absurd (omega arith)

  -- A backing field: its name and its descriptor, in its own message.
  pub field-of-marks : {u v w : List ℕ} → NameMarked e base msg JvmFieldSignature-name u v → NameMarked e base msg JvmFieldSignature-desc v w
      → MarksIn e base msg field_of u w
  unfolding field_of
  field-of-marks g h = record {
    is = λ records table o m c. marks_bind (g.name.is records table o m c) λ l l' name q. marks-made _ (h.name.is records table o m c);
  }

  pub parameter-marks : {u v w x : List ℕ} → NameMarked e base msg ValueParameter-name u v
      → DeclaredMarked e base msg ValueParameter-type ValueParameter-type_id v w
      → DeclaredMarked e base msg ValueParameter-vararg_element_type ValueParameter-vararg_element_type_id w x → MarksIn e base msg parameter_in u x
  unfolding parameter_in
  parameter-marks g h k = record {
    is = λ records table o m c.
        marks_bind (g.name.is records table o m c) λ l l' name q.
        marks_bind (h.is records table o m c) λ i i' type z. marks-made _ (k.is records table o m c);
  }

  pub constructor-marks : {u v w : List ℕ} → MarksIn e base msg (λ c. parameters_in c Constructor-value_parameter) u v
      → SignatureInMarked e base msg Constructor-constructor_signature true v w → MarksIn e base msg constructor_in u w
  unfolding constructor_in
  constructor-marks g h = record {
    is = λ records table o m c.
        marks_bind (g.is records table o m c) λ l l' parameters q. marks-made _ ((h (some (ascii "<init>")) refl).is records table o m c);
  }

  -- A declaration whose name isn't there is skipped.
  pub function-nameless : {u v : List ℕ} {t : Option Text} → NameRead e base msg Function-name t → t ≡ none → NameMarked e base msg Function-name u v
      → MarksIn e base msg function_in u v
  unfolding function_in
  function-nameless {v} k q g = record {
    is = λ records table o m c. marks-known _ {t = none} (λ l. k _ o.names m c l ∙ as-known l q) (g.name.is records table o m c) (marks-same (pure none) v);
  }

  pub function-marks : {u v w x y z : List ℕ} {t : Option Text} (name : Text) → NameRead e base msg Function-name t → t ≡ some name
      → NameMarked e base msg Function-name u v → MarksIn e base msg (λ c. parameters_in c Function-value_parameter) v w
      → DeclaredMarked e base msg Function-receiver_type Function-receiver_type_id w x
      → SignatureInMarked e base msg Function-method_signature true x y
      → DeclaredMarked e base msg Function-return_type Function-return_type_id y z → MarksIn e base msg function_in u z
  unfolding function_in
  function-marks name k q g ps r sig returns = record {
    is = λ records table o m c.
        marks-known _ {t = some name} (λ l. k _ o.names m c l ∙ as-known l q) (g.name.is records table o m c)
        (marks-made _
        (marks_bind (ps.is records table o m c) λ i i' parameters p.
        marks_bind (r.is records table o m c) λ j j' receiver p'.
        marks_bind ((sig (some name) refl).is records table o m c) λ n n' signature p''. marks-made _ (returns.is records table o m c)));
  }

  pub property-nameless : {u v : List ℕ} {t : Option Text} → NameRead e base msg Property-name t → t ≡ none → NameMarked e base msg Property-name u v
      → MarksIn e base msg property_in u v
  unfolding property_in
  property-nameless {v} k q g = record {
    is = λ records table o m c. marks-known _ {t = none} (λ l. k _ o.names m c l ∙ as-known l q) (g.name.is records table o m c) (marks-same (pure none) v);
  }

  pub property-marks : {u v w x y z z' : List ℕ} {t : Option Text} (name : Text) → NameRead e base msg Property-name t → t ≡ some name
      → NameMarked e base msg Property-name u v → FieldMarked e base msg v w
      → DeclaredMarked e base msg Property-receiver_type Property-receiver_type_id w x
      → AccessorMarked e base msg JvmPropertySignature-getter x y → AccessorMarked e base msg JvmPropertySignature-setter y z
      → DeclaredMarked e base msg Property-return_type Property-return_type_id z z' → MarksIn e base msg property_in u z'
  unfolding property_in
  property-marks name k q g f r get set returns = record {
    is = λ records table o m c.
        marks-known _ {t = some name} (λ l. k _ o.names m c l ∙ as-known l q) (g.name.is records table o m c)
        (marks-made _
        (marks-cut (message Property-property_signature m) _ λ signature p.
        marks_bind (f records table o m c signature p) λ i i' field z1.
        marks_bind (r.is records table o m c) λ j j' receiver z2.
        marks_bind (get records table o m c signature p) λ n n' getter z3.
        marks_bind (set records table o m c signature p) λ h h' setter z4. marks-made _ (returns.is records table o m c)));
  }

  pub alias-nameless : {u v : List ℕ} {t : Option Text} → NameRead e base msg TypeAlias-name t → t ≡ none → NameMarked e base msg TypeAlias-name u v
      → MarksIn e base msg alias_in u v
  unfolding alias_in
  alias-nameless {v} k q g = record {
    is = λ records table o m c. marks-known _ {t = none} (λ l. k _ o.names m c l ∙ as-known l q) (g.name.is records table o m c) (marks-same (pure none) v);
  }

  pub alias-marks : {u v w x : List ℕ} {t : Option Text} (name : Text) → NameRead e base msg TypeAlias-name t → t ≡ some name
      → NameMarked e base msg TypeAlias-name u v → DeclaredMarked e base msg TypeAlias-underlying_type TypeAlias-underlying_type_id v w
      → DeclaredMarked e base msg TypeAlias-expanded_type TypeAlias-expanded_type_id w x → MarksIn e base msg alias_in u x
  unfolding alias_in
  alias-marks name k q g h i = record {
    is = λ records table o m c.
        marks-known _ {t = some name} (λ l. k _ o.names m c l ∙ as-known l q) (g.name.is records table o m c)
        (marks-made _ (marks_bind (h.is records table o m c) λ j j' underlying z. marks-made _ (i.is records table o m c)));
  }

  -- The head of a class has a name, that of a package none.
  pub head-class : {u v : List ℕ} → NameMarked e base msg Class-fq_name u v → MarksIn e base msg (head_in true) u v
  head-class g = record { is = λ records table o m c. marks-made _ (g.class.is records table o m c) }

  pub head-package : (u : List ℕ) → MarksIn e base msg (head_in false) u u
  head-package u = record { is = λ records table o m c. marks-same _ u }

  pub no-constructors : (u : List ℕ) → MarksIn e base msg (constructors_in false) u u
  no-constructors u = record { is = λ records table o m c. marks-same _ u }

  pub lists-marks : (class : Bool) {u v w x y : List ℕ} → MarksIn e base msg (constructors_in class) u v
      → MarksIn e base msg (λ c. list_in (function_in c) (function_field class)) v w
      → MarksIn e base msg (λ c. list_in (property_in c) (property_field class)) w x
      → MarksIn e base msg (λ c. list_in (alias_in c) (alias_field class)) x y → (h : Head) → MarksIn e base msg (lists_in class h) u y
  unfolding lists_in
  lists-marks class g f p a h = record {
    is = λ records table o m c.
        marks_bind (g.is records table o m c) λ i i' constructors z1.
        marks_bind (f.is records table o m c) λ j j' functions z2.
        marks_bind (p.is records table o m c) λ n n' properties z3. marks-made _ (a.is records table o m c);
  }

  pub after-table-marks : (class : Bool) {u v w : List ℕ} → MarksIn e base msg (head_in class) u v
      → ((h : Head) → MarksIn e base msg (lists_in class h) v w) → MarksIn e base msg (after_table class) u w
  unfolding after_table
  after-table-marks class g h = record { is = λ records table o m c. marks_bind (g.is records table o m c) λ i i' head z. (h head).is records table o m c }
