-- `Agree` of each definition that a payload is read by, one law each, in the order of the definitions.
-- Assumes nothing.
use mathlib.Core.Path.{◌≡◌, refl, ap, sym, ◌∙◌}
use mathlib.Core.Logic.{◌⊎◌, inl, inr, ◌≢◌}
use mathlib.Core.Bool.{Bool, true, false}
use mathlib.Core.List.{List, [], ◌∷◌}
use mathlib.Core.Option.{Option, none, some}
use Prim.Native.Nat.{ℕ, zero, suc, ◌+◌, ◌≤◌, ◌<◌}
use native.Mathlib.Omega.{arith}
use lib.Dec.{eqb, ltb}
use lib.ListN.{length, get_elem?}
use borrow.Author.Tests.{ltb-true, ltb-false}
use Rattle.std.specs.Prelude.{if◌then◌else◌}
use Rattle.foundation.specs.Choices.{if_some, map_option, or_else}
use Rattle.foundation.specs.Results.{ok, refused, ◌from◌}
use Rattle.foundation.specs.Texts.{Text, same}
use Rattle.foundation.proofs.ChoiceLaws.{same_refl, same_true}
use Rattle.wire.specs.Wire.{Message, cut, read_delimited}
use Rattle.wire.specs.Messages.{index, message, messages}
use Rattle.characters.specs.Characters.{from_utf16}
use Rattle.names.specs.Records.{Record, decides, text_of}
use Rattle.names.specs.Names.{Names, records_of, record_at, string, qualified_name, d2_string}
use Rattle.schema.specs.Reading.{pure, lift, enter, TypeTable, Scope, scope, name_in, class_name_in, allowance}
use Rattle.declaration_rows.specs.Declarations.{star}
use Rattle.schema.specs.Types.{Walk, max_depth, nullable_from, resolve_at, type_in, projection_in, argument_in, parse_at, type_at, declared_type, type_table_in}
use Rattle.schema.specs.Members.{signature_of, signature_in, field_of, forgiven, field_in, parameter_in, parameters_in, constructor_in, function_in, property_in, alias_in, Head, head_in, constructors_in, function_field, property_field, alias_field, type_table_field, lists_in, after_table, body_in}
use Rattle.declarations.specs.Payload.{payload}
use Rattle.strings.proofs.Agree.{Lookup, Differs, Asks, Agree, AgreeR, agree_same, agree-bind, r-same, r-bind, r-lift, r-enter, r-if_some, r-if, r-kept, r-each, r-named, r-list_in, r-of_signature}
use Rattle.strings.proofs.LookupLaws.{asks-itself, asks-or-leaves}

true-false : true ≡ false → ⊥
true-false z = let q : ◌≡◌ {A = ℕ} 0 1 = cc in omega arith

-- strings are equal or not
decided : (a b : Option (List ℕ)) → (a ≡ b) ⊎ (a ≢ b)
decided none none = inl refl
decided none (some t) = inr λ e. let z : ◌≡◌ {A = ℕ} 0 1 = cc in omega arith
decided (some s) none = inr λ e. let z : ◌≡◌ {A = ℕ} 0 1 = cc in omega arith
decided (some s) (some t) = go (same s t) refl
  where
    go : (b : Bool) → same s t ≡ b → (some s ≡ some t) ⊎ (some s ≢ some t)
    go true e = inl (ap some (same_true s t e))
    go false e = inr λ q. let p : s ≡ t = cc in true-false (sym (same_refl s) ∙ (ap (same s) p ∙ e))

past_end : {A : Type 0} (xs : List A) (i : ℕ) → length xs ≤ i → get_elem? xs i ≡ none
past_end [] i h = refl
past_end (x ∷ xs) zero h = absurd (omega arith)
past_end (x ∷ xs) (suc i) h = past_end xs i (omega arith)

module _ (ss ts : List (List ℕ)) (count : length ss ≡ length ts) where
  -- looking up string i
  d2-agrees : (i : ℕ) → Agree ss ts (λ s. s i)
  unfolding Differs d2_string
  d2-agrees i = record { both = go (decided (get_elem? ss i) (get_elem? ts i)); each = asks-or-leaves ss i }
    where
      inside : get_elem? ss i ≢ get_elem? ts i → (b : Bool) → ltb i (length ss) ≡ b → i < length ss
      inside d true t = ltb-true i (length ss) t
      inside d false t =
          let l = ltb-false i (length ss) t in
          absurd (d (past_end ss i l ∙ sym (past_end ts i (omega arith))))

      go : (get_elem? ss i ≡ get_elem? ts i) ⊎ (get_elem? ss i ≢ get_elem? ts i)
          → (d2_string ss i ≡ d2_string ts i) ⊎ ((n : ℕ) × Differs ss ts n × Asks ss n (λ s. s i))
      go (inl e) = inl (ap (λ (o : Option (List ℕ)). ok (map_option from_utf16 o)) e)
      go (inr d) = inr (i, d, asks-itself ss i (inside d (ltb i (length ss)) refl))

  module _ (records : List Record) where
    abbrev ns : Lookup → Names
    ns s = record { records = records; d2 = s }

    string-agrees : (i : ℕ) → Agree ss ts (λ s. string (ns s) i)
    unfolding string
    string-agrees i = go (record_at i records)
      where
        by : (r : Record) (t : Bool) → Agree ss ts (λ s. if t then ok (text_of r) else s i)
        by r true = agree_same (ok (text_of r))
        by r false = d2-agrees i

        go : (o : Option Record) → Agree ss ts (λ s. if_some o (s i) λ r. if decides r then ok (text_of r) else s i)
        go none = d2-agrees i
        go (some r) = by r (decides r)

    qualified-agrees : (i : ℕ) → Agree ss ts (λ s. qualified_name (ns s) i)
    unfolding qualified_name
    qualified-agrees i = agree-bind (λ s. string (ns s) i) _ (string-agrees i) λ t. agree_same (ok _)

    module _ (table : TypeTable) where
      abbrev e : Lookup → Scope
      e s = scope (ns s) table

      name-agrees : (n : ℕ) (m : Message) → AgreeR ss ts (λ s. name_in (e s) n m)
      unfolding name_in
      name-agrees n m = r-if_some (index n m) (r-same (pure none)) λ i. r-lift (string-agrees i)

      class-name-agrees : (n : ℕ) (m : Message) → AgreeR ss ts (λ s. class_name_in (e s) n m)
      unfolding class_name_in
      class-name-agrees n m = r-if_some (index n m) (r-same (pure none)) λ i. r-lift (qualified-agrees i)

      module _ (w : Lookup → Walk) (c : (d : ℕ) (m : Message) → AgreeR ss ts (λ s. w s d m)) where
        resolve-agrees : (d i : ℕ) → AgreeR ss ts (λ s. resolve_at (w s) (e s) d i)
        unfolding resolve_at
        resolve-agrees d i =
            let found = r-if_some (get_elem? table.types i) (r-same (pure none)) λ m.
            r-bind (c (d + 1) m) λ t. r-same (pure (some (nullable_from table.first_nullable i t))) in
            r-if (ltb d max_depth) found (r-same (pure none))

        type-in-agrees : (d inline indexed : ℕ) (m : Message) → AgreeR ss ts (λ s. type_in (w s) (e s) d inline indexed m)
        unfolding type_in
        type-in-agrees d inline indexed m =
            r-bind (r-same (lift (message inline m))) λ t.
            r-if_some t (r-if_some (index indexed m) (r-same (pure none)) (resolve-agrees d)) λ inner.
            r-bind (c d inner) λ it. r-same (pure _)

        argument-agrees : (d : ℕ) (m : Message) → AgreeR ss ts (λ s. argument_in (w s) (e s) d m)
        unfolding argument_in
        argument-agrees d m =
            r-if (eqb (projection_in m) star) (r-same (enter (pure _))) (r-bind (type-in-agrees d _ _ m) λ t. r-same (pure _))

        parse-agrees : (d : ℕ) (m : Message) → AgreeR ss ts (λ s. parse_at (w s) (e s) d m)
        unfolding parse_at
        parse-agrees d m =
            r-enter (
            r-bind (r-same (lift (messages _ m))) λ arguments.
            r-bind (r-kept (argument-agrees (d + 1)) arguments) λ types.
            r-bind (class-name-agrees _ m) λ name. r-same (pure _))

      type-agrees : (k d : ℕ) (m : Message) → AgreeR ss ts (λ s. type_at k (e s) d m)
      unfolding type_at
      type-agrees zero d m = record { at = λ l. agree_same (refused _ 0) }
      type-agrees (suc k) d m = record { at = (parse-agrees (λ s. type_at k (e s)) (type-agrees k) d m).at }

      declared-agrees : (inline indexed : ℕ) (m : Message) → AgreeR ss ts (λ s. declared_type (e s) inline indexed m)
      unfolding declared_type
      declared-agrees = type-in-agrees (λ s. type_at allowance (e s)) (type-agrees allowance) 0

      signature-agrees : (fallback : Option Text) (m : Message) → AgreeR ss ts (λ s. signature_of (e s) fallback m)
      unfolding signature_of
      signature-agrees fallback m =
          r-bind (name-agrees _ m) λ own.
          r-if_some (or_else own fallback) (r-same (pure none)) λ name.
          r-bind (name-agrees _ m) λ descriptor. r-same (pure _)

      signature-in-agrees : (fallback : Option Text) (n : ℕ) (m : Message) → AgreeR ss ts (λ s. signature_in (e s) fallback n m)
      unfolding signature_in
      signature-in-agrees fallback n m =
          r-bind (r-same (lift (message n m))) λ t. r-if_some t (r-same (pure none)) (signature-agrees fallback)

      field-agrees : (m : Message) → AgreeR ss ts (λ s. field_of (e s) m)
      unfolding field_of
      field-agrees m = r-bind (name-agrees _ m) λ name. r-bind (name-agrees _ m) λ descriptor. r-same (pure _)

      field-in-agrees : (m : Message) → AgreeR ss ts (λ s. field_in (e s) m)
      unfolding field_in
      field-in-agrees m = r-if_some (forgiven (message _ m)) (r-same (pure none)) field-agrees

      parameter-agrees : (m : Message) → AgreeR ss ts (λ s. parameter_in (e s) m)
      unfolding parameter_in
      parameter-agrees m =
          r-bind (name-agrees _ m) λ name.
          r-bind (declared-agrees _ _ m) λ type. r-bind (declared-agrees _ _ m) λ vararg. r-same (pure _)

      parameters-agree : (n : ℕ) (m : Message) → AgreeR ss ts (λ s. parameters_in (e s) n m)
      unfolding parameters_in
      parameters-agree n m = r-bind (r-same (lift (messages n m))) (r-each parameter-agrees)

      constructor-agrees : (m : Message) → AgreeR ss ts (λ s. constructor_in (e s) m)
      unfolding constructor_in
      constructor-agrees m =
          r-bind (parameters-agree _ m) λ parameters.
          r-bind (signature-in-agrees _ _ m) λ signature. r-same (pure _)

      function-agrees : (m : Message) → AgreeR ss ts (λ s. function_in (e s) m)
      unfolding function_in
      function-agrees m =
          r-bind (name-agrees _ m) λ n. r-named n λ name.
          r-bind (parameters-agree _ m) λ parameters.
          r-bind (declared-agrees _ _ m) λ receiver.
          r-bind (signature-in-agrees _ _ m) λ signature.
          r-bind (declared-agrees _ _ m) λ returned. r-same (pure _)

      property-agrees : (m : Message) → AgreeR ss ts (λ s. property_in (e s) m)
      unfolding property_in
      property-agrees m =
          r-bind (name-agrees _ m) λ n. r-named n λ name.
          r-bind (r-same (lift (message _ m))) λ signature.
          r-bind (r-of_signature field-in-agrees signature) λ field.
          r-bind (declared-agrees _ _ m) λ receiver.
          r-bind (r-of_signature (signature-in-agrees none _) signature) λ getter.
          r-bind (r-of_signature (signature-in-agrees none _) signature) λ setter.
          r-bind (declared-agrees _ _ m) λ type. r-same (pure _)

      alias-agrees : (m : Message) → AgreeR ss ts (λ s. alias_in (e s) m)
      unfolding alias_in
      alias-agrees m =
          r-bind (name-agrees _ m) λ n. r-named n λ name.
          r-bind (declared-agrees _ _ m) λ underlying. r-bind (declared-agrees _ _ m) λ expanded. r-same (pure _)

      head-agrees : (class : Bool) (m : Message) → AgreeR ss ts (λ s. head_in class (e s) m)
      head-agrees true m = r-bind (class-name-agrees _ m) λ name. r-same (pure _)
      head-agrees false m = r-same (pure _)

      constructors-agree : (class : Bool) (m : Message) → AgreeR ss ts (λ s. constructors_in class (e s) m)
      constructors-agree true m = r-list_in constructor-agrees _ m
      constructors-agree false m = r-same (pure _)

      lists_agree : (class : Bool) (h : Head) (m : Message) → AgreeR ss ts (λ s. lists_in class h (e s) m)
      unfolding lists_in
      lists_agree class h m =
          r-bind (constructors-agree class m) λ constructors.
          r-bind (r-list_in function-agrees (function_field class) m) λ functions.
          r-bind (r-list_in property-agrees (property_field class) m) λ properties.
          r-bind (r-list_in alias-agrees (alias_field class) m) λ aliases. r-same (pure _)

      after-table-agrees : (class : Bool) (m : Message) → AgreeR ss ts (λ s. after_table class (e s) m)
      unfolding after_table
      after-table-agrees class m = r-bind (head-agrees class m) λ h. lists_agree class h m

    body-agrees : (class : Bool) (m : Message) → AgreeR ss ts (λ s. body_in class (ns s) m)
    unfolding body_in
    body-agrees class m = r-bind (r-same (type_table_in (type_table_field class) m)) λ table. after-table-agrees table class m

  pub payload-agrees : (kind : ℕ) (bytes : List ℕ) → Agree ss ts (λ s. payload kind s bytes)
  unfolding payload
  payload-agrees kind bytes =
      agree-bind (λ s. read_delimited (◌from◌ 0 bytes)) _ (agree_same (read_delimited (◌from◌ 0 bytes))) λ g.
      agree-bind (λ s. cut g.0) _ (agree_same (cut g.0)) λ fields.
      agree-bind (λ s. records_of fields) _ (agree_same (records_of fields)) λ records.
      agree-bind (λ s. cut g.1) _ (agree_same (cut g.1)) λ body. (body-agrees records (eqb kind 1) body).at allowance
