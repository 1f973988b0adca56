-- A type's own fields by one walk of its message: what is known after one more field, and at the end.
-- Assumes nothing.
use mathlib.Core.Path.{◌≡◌, refl, ap, sym, ◌∙◌, subst}
use mathlib.Core.Bool.{Bool, true, false, not}
use mathlib.Core.List.{List, [], ◌∷◌}
use mathlib.Core.Option.{Option, none}
use Prim.Native.Nat.{ℕ, ◌≤◌, ◌<◌}
use native.Mathlib.Omega.{arith}
use lib.Dec.{eqb}
use lib.ListN.{length}
use Rattle.std.specs.declared.option.Option as rust
use Rattle.std.specs.Option.{option_flatten, option_or}
use Rattle.std.specs.Prelude.{unwrap_or, MatchOption}
use Rattle.std.specs.declared.option.Option.TheVariants.{Some, None}
use Rattle.foundation.specs.Choices.{if_some}
use Rattle.foundation.specs.Results.{ok, Part, ◌from◌}
use Rattle.fields.specs.Fields.{Type-argument, Type-nullable, Type-class_name}
use Rattle.wire.specs.Wire.{Value, field, read_field, Message, cut}
use Rattle.wire.specs.Messages.{values, first_of, as_varint, as32, varint_of, index, flag, bodies_of, cut_all, messages}
use Rattle.wire.specs.told.WireTold.{rest_of, value_of, FieldTold, value_number, piece_of}
use Rattle.messages.specs.told.Asked.{number_told, piece_told, index_told, bodies}
use Rattle.wire.specs.declared.WireError.{WireError}
use Rattle.wire.specs.declared.WireValue.{WireValue}
use Rattle.wire.specs.declared.Field as code
use Rattle.foundation.specs.declared.Read.{Read}
use Rattle.std.specs.Prelude.{Ok, Err}
use Rattle.wire.proofs.WalkLaws.{Leads, leads-start, leads-next, leads-never, leads-end, values-found, values-passed}
use Rattle.messages.proofs.FindLaws.{as_number, as_piece, flag-nothing, flag_is}
use Rattle.schema.specs.told.HeadTold.{is_body, any_of, NameKnown, FlagKnown, ArgumentsKnown, Known, HeadTold}
use Rattle.schema.specs.declared.head.Seen.{Seen}
use Rattle.schema.specs.declared.head.TypeHead.{TypeHead}
use Rattle.foundation.specs.declared.Span.{Span}

not_body : (p : rust.Option Span) → is_body p ≡ false → p ≡ None
not_body (Some p) e = let z : ◌≡◌ {A = ℕ} 0 1 = cc in absurd (omega arith)
not_body None e = refl

-- A flag by the number of its field, if it has one: P is what a test tells of the number.
pub flag-tested : (k : ℕ) (m : Message) (r : rust.Option ℕ) {b : Bool} (P : ℕ → Type 0) → varint_of k m ≡ number_told r → MatchOption r (b ≡ false) P
    → ((v : ℕ) → P v → b ≡ not (eqb v 0)) → flag k m ≡ b
flag-tested k m (Some v) P e h t = flag_is k m e refl ∙ sym (t v h)
flag-tested k m None P e h t = flag-nothing k m e refl ∙ sym h

-- What a message says of field k, if its first field has another number, and of a field that is its first.
module _ (k : ℕ) {n : ℕ} (v : Value) (m : Message) (h : n ≡ k → ⊥) where
  index-passed : index k (field n v ∷ m) ≡ index k m
  unfolding index varint_of
  index-passed = ap (λ (vs : List Value). if_some (if_some (first_of vs) none as_varint) none as32) (values-passed k v m h)

  flag-passed : flag k (field n v ∷ m) ≡ flag k m
  unfolding flag varint_of
  flag-passed = ap (λ (vs : List Value). if_some (if_some (first_of vs) none as_varint) false λ x. not (eqb x 0)) (values-passed k v m h)

  bodies-passed : bodies k (field n v ∷ m) ≡ bodies k m
  bodies-passed = ap bodies_of (values-passed k v m h)

module _ (k base : ℕ) (s : List ℕ) (v : WireValue) (m : Message) where
  varint-first : varint_of k (field k (value_of base s v) ∷ m) ≡ number_told (value_number v)
  unfolding varint_of
  varint-first = ap (λ (vs : List Value). if_some (first_of vs) none as_varint) (values-found k (value_of base s v) m refl) ∙ as_number base s v

  -- the bodies, by the piece that stands first
  abbrev with-piece : rust.Option Span → List Part
  with-piece p = if_some (piece_told base s p) (bodies k m) λ b. b ∷ bodies k m

  bodies-first : bodies k (field k (value_of base s v) ∷ m) ≡ with-piece (piece_of v)
  unfolding bodies_of
  bodies-first =
      ap bodies_of (values-found k (value_of base s v) m refl)
      ∙ ap (λ (o : Option Part). if_some o (bodies k m) λ p. p ∷ bodies k m) (as_piece base s v)

  bodies-none : is_body (piece_of v) ≡ false → bodies k (field k (value_of base s v) ∷ m) ≡ bodies k m
  bodies-none e = bodies-first ∙ ap with-piece (not_body (piece_of v) e)

  bodies-some : is_body (piece_of v) ≡ true → any_of (bodies k (field k (value_of base s v) ∷ m)) ≡ true
  bodies-some e = ap any_of bodies-first ∙ there (piece_of v) e
    where
      there : (p : rust.Option Span) → is_body p ≡ true → any_of (with-piece p) ≡ true
      there (Some p) h = refl
      there None h = let z : ◌≡◌ {A = ℕ} 0 1 = cc in absurd (omega arith)

-- One part of what is known: after a field with another number, after one with its own, at the end.
module _ (m : Message) where
  name-other : {n : ℕ} (v : Value) (rest : Message) (x : rust.Option (rust.Option ℕ)) → (n ≡ Type-class_name → ⊥) → NameKnown x m (field n v ∷ rest) → NameKnown x m rest
  name-other v rest (Some x) h e = e
  name-other v rest None h e = e ∙ index-passed Type-class_name v rest h

  name-with : (a b : Message) (x : rust.Option (rust.Option ℕ)) (y : rust.Option ℕ) → index Type-class_name a ≡ index_told y → NameKnown x m a
      → NameKnown (option_or x (Some y)) m b
  name-with a b (Some z) y h e = e
  name-with a b None y h e = e ∙ h

  name-end : (x : rust.Option (rust.Option ℕ)) → NameKnown x m [] → index Type-class_name m ≡ index_told (option_flatten x)
  unfolding index varint_of values
  name-end (Some x) e = e
  name-end None e = e

  flag-other : {n : ℕ} (v : Value) (rest : Message) (x : rust.Option Bool) → (n ≡ Type-nullable → ⊥) → FlagKnown x m (field n v ∷ rest) → FlagKnown x m rest
  flag-other v rest (Some x) h e = e
  flag-other v rest None h e = e ∙ flag-passed Type-nullable v rest h

  flag-with : (a b : Message) (x : rust.Option Bool) (y : Bool) → flag Type-nullable a ≡ y → FlagKnown x m a → FlagKnown (option_or x (Some y)) m b
  flag-with a b (Some z) y h e = e
  flag-with a b None y h e = e ∙ h

  flag-end : (x : rust.Option Bool) → FlagKnown x m [] → flag Type-nullable m ≡ unwrap_or x false
  unfolding flag varint_of values
  flag-end (Some x) e = e
  flag-end None e = e

module _ (m : Message) where
  arguments-other : {n : ℕ} (v : Value) (rest : Message) (t : Bool) → (n ≡ Type-argument → ⊥) → ArgumentsKnown t m (field n v ∷ rest) → ArgumentsKnown t m rest
  arguments-other v rest true h e = e
  arguments-other v rest false h e = e ∙ bodies-passed Type-argument v rest h

  arguments-more : (a b : Message) (t : Bool) → bodies Type-argument a ≡ bodies Type-argument b → ArgumentsKnown t m a → ArgumentsKnown t m b
  arguments-more a b true h e = e
  arguments-more a b false h e = e ∙ h

  arguments-there : (a : Message) (t : Bool) → any_of (bodies Type-argument a) ≡ true → ArgumentsKnown t m a → any_of (bodies Type-argument m) ≡ true
  arguments-there a true h e = e
  arguments-there a false h e = ap any_of e ∙ h

  arguments-end : (t : Bool) → ArgumentsKnown t m [] → any_of (bodies Type-argument m) ≡ t
  unfolding values bodies_of
  arguments-end true e = e
  arguments-end false e = ap any_of e

pub never_false : {A : Type 0} → true ≡ false → A
never_false e = let z : ◌≡◌ {A = ℕ} 0 1 = cc in absurd (omega arith)

-- What is known after one more field.
module _ (x : Seen) (v : WireValue) (base : ℕ) (s : List ℕ) (m rest : Message) where
  pub known-other : {n : ℕ} → (n ≡ Type-argument → ⊥) → (n ≡ Type-nullable → ⊥) → (n ≡ Type-class_name → ⊥)
      → Known x m (field n (value_of base s v) ∷ rest) → Known x m rest
  known-other a b c k = record {
    name = name-other m (value_of base s v) rest x.name c k.name;
    nullable = flag-other m (value_of base s v) rest x.nullable b k.nullable;
    arguments = arguments-other m (value_of base s v) rest x.arguments a k.arguments;
  }

  module _ (k : Known x m (field Type-class_name (value_of base s v) ∷ rest)) where
    named-nullable : FlagKnown x.nullable m rest
    named-nullable = flag-other m (value_of base s v) rest x.nullable (λ e. omega arith) k.nullable

    named-arguments : ArgumentsKnown x.arguments m rest
    named-arguments = arguments-other m (value_of base s v) rest x.arguments (λ e. omega arith) k.arguments

    pub known-name : (y : rust.Option ℕ) → ((k : ℕ) (m : Message) → varint_of k m ≡ number_told (value_number v) → index k m ≡ index_told y)
        → {name : rust.Option (rust.Option ℕ)} → name ≡ option_or x.name (Some y)
        → Known (record { name = name; nullable = x.nullable; arguments = x.arguments }) m rest
    known-name y t {name} e =
        let here = field Type-class_name (value_of base s v) ∷ rest in
        let first = t Type-class_name here (varint-first Type-class_name base s v rest) in
        record {
          name = subst (λ (z : rust.Option (rust.Option ℕ)). NameKnown z m rest) (sym e) (name-with m here rest x.name y first k.name);
          nullable = named-nullable;
          arguments = named-arguments;
        }

  module _ (k : Known x m (field Type-nullable (value_of base s v) ∷ rest)) where
    flagged-name : NameKnown x.name m rest
    flagged-name = name-other m (value_of base s v) rest x.name (λ e. omega arith) k.name

    flagged-arguments : ArgumentsKnown x.arguments m rest
    flagged-arguments = arguments-other m (value_of base s v) rest x.arguments (λ e. omega arith) k.arguments

    pub known-flag : (y : Bool) → ((k : ℕ) (m : Message) → varint_of k m ≡ number_told (value_number v) → flag k m ≡ y)
        → {nullable : rust.Option Bool} → nullable ≡ option_or x.nullable (Some y)
        → Known (record { name = x.name; nullable = nullable; arguments = x.arguments }) m rest
    known-flag y t {nullable} e =
        let here = field Type-nullable (value_of base s v) ∷ rest in
        let first = t Type-nullable here (varint-first Type-nullable base s v rest) in
        record {
          name = flagged-name;
          nullable = subst (λ (z : rust.Option Bool). FlagKnown z m rest) (sym e) (flag-with m here rest x.nullable y first k.nullable);
          arguments = flagged-arguments;
        }

  module _ (k : Known x m (field Type-argument (value_of base s v) ∷ rest)) where
    argument-name : NameKnown x.name m rest
    argument-name = name-other m (value_of base s v) rest x.name (λ e. omega arith) k.name

    argument-nullable : FlagKnown x.nullable m rest
    argument-nullable = flag-other m (value_of base s v) rest x.nullable (λ e. omega arith) k.nullable

    pub known-argument : is_body (piece_of v) ≡ true
        → Known (record { name = x.name; nullable = x.nullable; arguments = true }) m rest
    known-argument h = record {
      name = argument-name;
      nullable = argument-nullable;
      arguments = arguments-there m (field Type-argument (value_of base s v) ∷ rest) x.arguments (bodies-some Type-argument base s v rest h) k.arguments;
    }

    pub known-no-body : is_body (piece_of v) ≡ false → Known x m rest
    known-no-body h = record {
      name = argument-name;
      nullable = argument-nullable;
      arguments = arguments-more m (field Type-argument (value_of base s v) ∷ rest) rest x.arguments (bodies-none Type-argument base s v rest h) k.arguments;
    }

-- The walk: what is known at a place.
abbrev pub Seeing : ℕ → List ℕ → ℕ → Seen → Type 0
Seeing base s at x = Leads (Known x) (◌from◌ base s) (rest_of base s at)

abbrev pub none_seen : Seen
none_seen = record { name = None; nullable = None; arguments = false }

module _ (base : ℕ) (s : List ℕ) where
  pub seeing-start : Seeing base s 0 none_seen
  seeing-start = leads-start (Known none_seen) base s λ m. record { name = refl; nullable = refl; arguments = refl }

  module _ (at : ℕ) (x : Seen) (l : Seeing base s at x) where
    pub seeing-end : length s ≤ at → (m : Message) → cut (◌from◌ base s) ≡ ok m → Known x m []
    seeing-end h = leads-end (Known x) (◌from◌ base s) base s at l h

    module _ (h : at < length s) where
      pub seeing-never : (error : WireError) → FieldTold base s (read_field (rest_of base s at)) (Err error)
          → (m : Message) → cut (◌from◌ base s) ≡ ok m → Known x m []
      seeing-never error e m w = leads-never (◌from◌ base s) base s at error e h (Known x) l m w

      pub seeing-next : (r : Read code.Field) → FieldTold base s (read_field (rest_of base s at)) (Ok r) → (y : Seen)
          → ((base : ℕ) (s : List ℕ) (m rest : Message) → Known x m (field r.value.number (value_of base s r.value.value) ∷ rest) → Known y m rest)
          → Seeing base s r.next y
      seeing-next r e y t = leads-next (◌from◌ base s) base s at r e h (Known x) (Known y) l (t base s)

  pub head-told : (x : Seen) → ((m : Message) → cut (◌from◌ base s) ≡ ok m → Known x m [])
      → HeadTold base s (record { name = option_flatten x.name; nullable = unwrap_or x.nullable false; arguments = x.arguments })
  head-told x k = record {
    name = λ m w. name-end m x.name (k m w).name;
    nullable = λ m w. flag-end m x.nullable (k m w).nullable;
    arguments = λ m w. arguments-end m x.arguments (k m w).arguments;
  }

  pub head-none : {r : TypeHead} → HeadTold base s r → r.arguments ≡ false → (m : Message) → cut (◌from◌ base s) ≡ ok m → bodies Type-argument m ≡ []
  head-none f h m w = none-there (bodies Type-argument m) (f.arguments m w ∙ h)
    where
      none-there : (ps : List Part) → any_of ps ≡ false → ps ≡ []
      none-there [] e = refl
      none-there (p ∷ ps) e = let z : ◌≡◌ {A = ℕ} 0 1 = cc in absurd (omega arith)

-- A message without a body of field k has no message there.
pub no-messages : (k : ℕ) (m : Message) → bodies k m ≡ [] → messages k m ≡ ok []
unfolding messages cut_all
no-messages k m e = ap cut_all e
