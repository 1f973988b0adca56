-- What the message in a field marks: a signature, a backing field.
-- Assumes nothing.
use mathlib.Core.Path.{◌≡◌, refl, ap, sym, subst, ◌∙◌}
use mathlib.Core.Bool.{Bool}
use mathlib.Core.List.{List}
use mathlib.Core.Option.{Option, none, some}
use Prim.Native.Nat.{ℕ, ◌+◌, ◌-◌}
use native.Mathlib.Omega.{arith}
use lib.ListN.{take, drop}
use Rattle.std.specs.declared.option.Option as rust
use Rattle.std.specs.declared.option.Option.TheVariants.{Some, None}
use Rattle.std.specs.declared.result.Result.{Result}
use Rattle.std.specs.declared.result.Result.TheVariants.{Ok, Err}
use Rattle.foundation.specs.Choices.{if_some}
use Rattle.foundation.specs.Results as Results
use Rattle.foundation.specs.Results.{Res, ok, refused, Part, ◌from◌}
use Rattle.foundation.specs.declared.Span.{Span}
use Rattle.fields.specs.Fields.{JvmPropertySignature-field, Property-property_signature}
use Rattle.wire.specs.Wire.{Message, cut}
use Rattle.wire.specs.Messages.{cut_option, message}
use Rattle.wire.specs.told.WireTold.{part_between}
use Rattle.std.specs.Result.{result_unwrap_or}
use Rattle.wire.specs.declared.WireError.{WireError}
use Rattle.messages.specs.told.Asked.{piece_told, BytesTold, EmbeddedIs, EmbeddedTold}
use Rattle.declaration_rows.specs.Declarations.{Signature}
use Rattle.schema.specs.Reading.{Read, pure, Scope}
use Rattle.schema.specs.Members.{signature_of, signature_in, field_of, forgiven, field_in, of_signature}
use Rattle.schema.specs.told.SchemaTold.{Lent}
use Rattle.members.proofs.SignatureLaws.{inner-there}
use Rattle.string_marks.specs.told.MarksTold.{Marks, scope_by, strings_in, MarksIn, SignatureMarked, SignatureInMarked, SignatureMessageMarked}
use Rattle.string_marks.proofs.MarkLaws.{marks-same, marks-cut}

-- The message in a field, where it is accepted: none, or the one that its bytes are cut into.
pub record Inner (p : Part) (o : Option Message) : Type 0 where
  pub inner : Message
  pub cuts : cut p ≡ ok inner
  pub is : o ≡ some inner

module _ (base : ℕ) (msg : List ℕ) (n : ℕ) {x : rust.Option Span} (t : BytesTold base msg n x) (m : Message) (c : cut (◌from◌ base msg) ≡ ok m) where
  pub message-none : x ≡ None → message n m ≡ ok none
  unfolding message
  message-none e = ap cut_option (t.is m c ∙ ap (piece_told base msg) e)

  pub message-inner : {p : Span} → x ≡ Some p → (o : Option Message) → message n m ≡ ok o → Inner (part_between base msg p.start p.end) o
  unfolding message
  message-inner {p} e o h = go (cut (part_between base msg p.start p.end)) refl (sym (ap cut_option (t.is m c ∙ ap (piece_told base msg) e)) ∙ h)
    where
      go : (r : Res Message) → cut (part_between base msg p.start p.end) ≡ r → Results.◌>>=◌ r (λ i. ok (some i)) ≡ ok o → Inner (part_between base msg p.start p.end) o
      go (ok i) k q = record { inner = i; cuts = k; is = sym (let f : some i ≡ o = cc in f) }
      go (refused d a) k q = let z : ◌≡◌ {A = ℕ} 0 1 = cc in absurd (omega arith)

-- A signature in a field.
module _ (e : Lent) (base : ℕ) (msg : List ℕ) (n : ℕ) (falls_back : Bool) {x : rust.Option Span} (t : BytesTold base msg n x) where
  pub unsigned-marked : x ≡ None → (u : List ℕ) → SignatureInMarked e base msg n falls_back u u
  unfolding signature_in
  unsigned-marked g u fallback h = record {
    is = λ records table o m c.
        marks-cut (message n m) (λ s i. if_some i (pure none) (signature_of (scope_by records table s) fallback)) λ i q.
        let f : i ≡ none = none_is (sym q ∙ message-none base msg n t m c g) in
        subst (λ (y : Option Message). Marks (strings_in e) (λ s. if_some y (pure none) (signature_of (scope_by records table s) fallback)) u u) (sym f) (marks-same (pure none) u);
  }
    where
      none_is : {i : Option Message} → ok i ≡ ok none → i ≡ none
      none_is q = cc

  pub signed-marked : {p : Span} → x ≡ Some p → {u v : List ℕ} → SignatureMarked e (base + p.start) (take (p.end - p.start) (drop p.start msg)) falls_back u v
      → SignatureInMarked e base msg n falls_back u v
  unfolding signature_in
  signed-marked g {u} {v} k fallback h = record {
    is = λ records table o m c.
        marks-cut (message n m) (λ s i. if_some i (pure none) (signature_of (scope_by records table s) fallback)) λ i q.
        let w = message-inner base msg n t m c g i q in
        subst (λ (y : Option Message). Marks (strings_in e) (λ s. if_some y (pure none) (signature_of (scope_by records table s) fallback)) u v) (sym w.is) ((k fallback h).is records table o w.inner w.cuts);
  }

-- What is read of a property's signature message.
module _ (e : Lent) (base : ℕ) (msg : List ℕ) (read : Scope → Message → Read (Option Signature)) {x : rust.Option Span}
    (t : BytesTold base msg Property-property_signature x) where
  pub no-message-marked : x ≡ None → (u : List ℕ) → SignatureMessageMarked e base msg read u u
  no-message-marked g u records table o m c i q =
      let f : i ≡ none = none_is (sym q ∙ message-none base msg Property-property_signature t m c g) in
      subst (λ (y : Option Message). Marks (strings_in e) (λ s. of_signature (read (scope_by records table s)) y) u u) (sym f) (marks-same (pure none) u)
    where
      none_is : {i : Option Message} → ok i ≡ ok none → i ≡ none
      none_is q = cc

  pub message-marked : {p : Span} → x ≡ Some p → {u v : List ℕ} → MarksIn e (base + p.start) (take (p.end - p.start) (drop p.start msg)) read u v
      → SignatureMessageMarked e base msg read u v
  message-marked g {u} {v} k records table o m c i q =
      let w = message-inner base msg Property-property_signature t m c g i q in
      subst (λ (y : Option Message). Marks (strings_in e) (λ s. of_signature (read (scope_by records table s)) y) u v) (sym w.is) (k.is records table o w.inner w.cuts)

-- The backing field in a property's signature message: a broken message counts as none.
module _ (e : Lent) (base : ℕ) (msg : List ℕ) where
  here : {x : Result (rust.Option Span) WireError} → EmbeddedTold base msg JvmPropertySignature-field x → {y : Result (rust.Option Span) WireError} → x ≡ y
      → (m : Message) → cut (◌from◌ base msg) ≡ ok m → EmbeddedIs base msg JvmPropertySignature-field m y
  here t g m c = subst (EmbeddedIs base msg JvmPropertySignature-field m) g (t.is m c)

  pub field-marked : {x : Result (rust.Option Span) WireError} → EmbeddedTold base msg JvmPropertySignature-field x → {p : Span} → result_unwrap_or x None ≡ Some p
      → {u v : List ℕ} → MarksIn e (base + p.start) (take (p.end - p.start) (drop p.start msg)) field_of u v → MarksIn e base msg field_in u v
  unfolding field_in
  field-marked {x} t g {u} {v} k = record {
    is = λ records table o m c.
        let i = here t (inner-there x g) m c in
        subst (λ (r : Res (Option Message)). Marks (strings_in e) (λ s. if_some (forgiven r) (pure none) (field_of (scope_by records table s))) u v) (sym i.2)
        (k.is records table o i.0 i.1);
  }

  pub no-field-marked : (x : Result (rust.Option Span) WireError) → EmbeddedTold base msg JvmPropertySignature-field x → result_unwrap_or x None ≡ None
      → (u : List ℕ) → MarksIn e base msg field_in u u
  unfolding field_in
  no-field-marked (Ok o) t g u = record {
    is = λ records table q m c.
        subst (λ (r : Res (Option Message)). Marks (strings_in e) (λ s. if_some (forgiven r) (pure none) (field_of (scope_by records table s))) u u)
        (sym (here t (ap Ok g) m c)) (marks-same (pure none) u);
  }
  no-field-marked (Err error) t g u = record {
    is = λ records table q m c.
        subst (λ (r : Res (Option Message)). Marks (strings_in e) (λ s. if_some (forgiven r) (pure none) (field_of (scope_by records table s))) u u)
        (sym (here t refl m c)) (marks-same (pure none) u);
  }
