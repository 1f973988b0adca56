-- What a reading gives is fine: its texts are characters, its numbers and its counts fit their cells.
-- Assumes nothing.
use mathlib.Core.Path.{◌≡◌, refl, ap}
use mathlib.Core.Bool.{Bool, true, false}
use mathlib.Core.List.{List, [], ◌∷◌}
use mathlib.Core.Option.{Option, none, some}
use Prim.Native.Nat.{ℕ, zero, suc, ◌+◌, ◌^◌, ◌≤◌, ◌<◌}
use native.Mathlib.Nat.{lt_of_le_of_lt}
use native.Mathlib.Omega.{arith}
use borrow.Author.Tests.{leb-true, eqb-false}
use lib.Dec.{eqb, ltb, leb}
use lib.ListN.{length, get_elem?}
use Rattle.foundation.specs.Choices.{if_some, map_option, or_else, both_of, All, IfSome}
use Rattle.foundation.specs.Results.{Res, ok, refused}
use Rattle.foundation.specs.Texts.{Text, ascii}
use Rattle.foundation.proofs.EveryLaws.{all-at}
use Rattle.foundation.proofs.ChoiceLaws.{if_ind}
use Rattle.foundation.proofs.ResultLaws.{Gives, gives_bind, gives_weaken}
use Rattle.fields.specs.Fields.{Type-Argument-projection}
use Rattle.wire.specs.Wire.{Message}
use Rattle.wire.specs.Messages.{varint_of, index, message, messages}
use Rattle.wire.proofs.Bounds.{Bounded, varint_of-below, message-bounded, messages-bounded}
use Rattle.characters.specs.Characters.{is_scalar}
use Rattle.characters.specs.told.CharactersTold.{Characters}
use Rattle.names.specs.Names.{Names, string, qualified_name}
use Rattle.declaration_rows.specs.Declarations.{star, Types, no_types, and_type, Ty, Argument, projected, blank, types_of, single, count_of, Signature, Parameter, Constructor, Function, Property, Alias, Declarations, signed}
use Rattle.schema.specs.Reading.{Read, pure, ◌>>=◌, lift, enter, keep, kept, Scope, name_in, class_name_in, allowance, each}
use Rattle.schema.specs.Types.{Walk, max_depth, resolve_at, type_in, projection_of, projection_in, argument_in, parse_at, type_at, declared_type, type_table_in}
use Rattle.schema.specs.Members.{flags_in, named, signature_of, signature_in, field_of, forgiven, field_in, of_signature, parameter_in, list_in, constructor_in, function_in, property_in, alias_in, Head, head_in, constructors_in, function_field, property_field, alias_field, lists_in, after_table, body_in, parameters_in}
use Rattle.schema.proofs.ArgumentLaws.{types-many}

-- each of them a Unicode scalar value
-- A star is blank.
abbrev pub BlankStar : ℕ → Bool → Option Text → Types → Type 0
BlankStar projection nullable name arguments = projection ≡ star → (nullable ≡ false) × (name ≡ none) × (arguments ≡ no_types)

-- Fine is what its row can say: names of characters, flags of 64 bits, counts of 16, one of the four projections.
abbrev pub FineTypes : Types → Type 0
FineTypes no_types = Unit {0}
FineTypes (and_type projection nullable name arguments after) =
    (projection ≤ star) × BlankStar projection nullable name arguments × IfSome Characters name × (count_of arguments < 2 ^ 16) × FineTypes arguments × FineTypes after

pub record FineTy (t : Ty) : Type 0 where
  pub name : IfSome Characters t.name
  pub count : count_of t.arguments < 2 ^ 16
  pub arguments : FineTypes t.arguments

-- by itself
pub single_fine : {t : Ty} → FineTy t → FineTypes (single t)
single_fine f = (omega arith, (λ e. absurd (omega arith)), f.name, f.count, f.arguments, tt)

pub record FineArgument (a : Argument) : Type 0 where
  pub projection : a.projection ≤ star
  pub blank : BlankStar a.projection a.type.nullable a.type.name a.type.arguments
  pub type : FineTy a.type

pub record FineSignature (s : Signature) : Type 0 where
  pub name : Characters s.name
  pub descriptor : Characters s.descriptor

pub record FineParameter (p : Parameter) : Type 0 where
  pub name : IfSome Characters p.name
  pub type : IfSome FineTy p.type
  pub vararg_element : IfSome FineTy p.vararg_element

pub record FineConstructor (c : Constructor) : Type 0 where
  pub flags : c.flags < 2 ^ 64
  pub count : length c.parameters < 2 ^ 16
  pub parameters : All FineParameter c.parameters
  pub signature : IfSome FineSignature c.signature

pub record FineFunction (f : Function) : Type 0 where
  pub name : Characters f.name
  pub flags : f.flags < 2 ^ 64
  pub count : length f.parameters < 2 ^ 16
  pub parameters : All FineParameter f.parameters
  pub receiver : IfSome FineTy f.receiver
  pub signature : IfSome FineSignature f.signature
  pub returned : IfSome FineTy f.returned

pub record FineProperty (p : Property) : Type 0 where
  pub name : Characters p.name
  pub flags : p.flags < 2 ^ 64
  pub field : IfSome FineSignature p.field
  pub getter : IfSome FineSignature p.getter
  pub setter : IfSome FineSignature p.setter
  pub receiver : IfSome FineTy p.receiver
  pub type : IfSome FineTy p.type

pub record FineAlias (a : Alias) : Type 0 where
  pub name : Characters a.name
  pub flags : a.flags < 2 ^ 64
  pub underlying : IfSome FineTy a.underlying
  pub expanded : IfSome FineTy a.expanded

pub record FineDeclarations (d : Declarations) : Type 0 where
  pub name : IfSome Characters d.name
  pub flags : d.flags < 2 ^ 64
  pub constructor_count : length d.constructors < 2 ^ 16
  pub function_count : length d.functions < 2 ^ 16
  pub property_count : length d.properties < 2 ^ 16
  pub alias_count : length d.aliases < 2 ^ 16
  pub constructors : All FineConstructor d.constructors
  pub functions : All FineFunction d.functions
  pub properties : All FineProperty d.properties
  pub aliases : All FineAlias d.aliases

-- A name table is fine if it gives characters alone.
pub record NamesFine (n : Names) : Type 0 where
  pub strings : (i : ℕ) → Gives (IfSome Characters) (string n i)
  pub qualified_names : (i : ℕ) → Gives (IfSome Characters) (qualified_name n i)

-- P holds of whatever the reading gives.
pub record Reads {A : Type 0} (P : A → Type 0) (m : Read A) : Type 0 where
  pub at : (l : ℕ) → Gives (λ r. P r.0) (m l)

module _ {A : Type 0} {P : A → Type 0} where
  pub reads-pure : {a : A} → P a → Reads P (pure a)
  reads-pure p = record { at = λ l. p }

  pub reads-lift : (r : Res A) → Gives P r → Reads P (lift r)
  reads-lift (ok a) p = record { at = λ l. p }
  reads-lift (refused c place) p = record { at = λ l. tt }

  pub reads-enter : {m : Read A} → Reads P m → Reads P (enter m)
  reads-enter {m} h = record { at = entered }
    where
      entered : (l : ℕ) → Gives (λ r. P r.0) (enter m l)
      entered zero = tt
      entered (suc l) = h.at l

module _ {A B : Type 0} {P : A → Type 0} {Q : B → Type 0} where
  pub reads-bind : {m : Read A} {f : A → Read B} → Reads P m → ((a : A) → P a → Reads Q (f a)) → Reads Q (m >>= f)
  reads-bind {m} {f} h g = record {
    at = λ l. gives_bind _ _ (m l) (λ r. f r.0 r.1) (h.at l) λ r p. (g r.0 p).at r.1;
  }

  pub reads-if_some : (o : Option A) {m : Read B} {f : A → Read B} → IfSome P o → Reads Q m → ((a : A) → P a → Reads Q (f a))
      → Reads Q (if_some o m f)
  reads-if_some none p h g = h
  reads-if_some (some a) p h g = g a p

pub reads_weaken : {A : Type 0} {P Q : A → Type 0} {m : Read A} → Reads P m → ((a : A) → P a → Q a) → Reads Q m
reads_weaken {m} h w = record { at = λ l. gives_weaken _ _ (m l) (h.at l) λ r. w r.0 }

pub reads_any : {A B : Type 0} {Q : B → Type 0} (o : Option A) {m : Read B} {f : A → Read B} → Reads Q m → ((a : A) → Reads Q (f a))
    → Reads Q (if_some o m f)
reads_any none h g = h
reads_any (some a) h g = g a

keep_fine : {A : Type 0} (P : A → Type 0) (o : Option A) (xs : List A) → IfSome P o → All P xs → All P (keep o xs)
keep_fine P none xs p h = h
keep_fine P (some x) xs p h = (p, h)

keep-length : {A : Type 0} (o : Option A) (xs : List A) → length (keep o xs) ≤ suc (length xs)
keep-length none xs = omega arith
keep-length (some x) xs = omega arith

pub reads_kept : {A : Type 0} {P : Message → Type 0} {Q : A → Type 0} {f : Message → Read (Option A)}
    → ((m : Message) → P m → Reads (IfSome Q) (f m)) → (ms : List Message) → All P ms
    → Reads (λ xs. All Q xs × (length xs ≤ length ms)) (kept f ms)
unfolding kept
reads_kept h [] p = reads-pure (tt, omega arith)
reads_kept {Q} h (m ∷ ms) p =
    reads-bind (h m p.0) λ a q.
    reads-bind (reads_kept h ms p.1) λ xs r.
    reads-pure (keep_fine Q a xs q r.0, omega (arith, keep-length a xs, r.1))

pub reads-each : {A : Type 0} {P : Message → Type 0} {Q : A → Type 0} {f : Message → Read A} → ((m : Message) → P m → Reads Q (f m))
    → (ms : List Message) → All P ms → Reads (λ xs. All Q xs × (length xs ≡ length ms)) (each f ms)
unfolding each
reads-each h [] p = reads-pure (tt, refl)
reads-each h (m ∷ ms) p = reads-bind (h m p.0) λ a q. reads-bind (reads-each h ms p.1) λ xs r. reads-pure ((q, r.0), ap suc r.1)

-- names
pub record ScopeFine (n : ℕ) (s : Scope) : Type 0 where
  pub names : NamesFine s.names
  pub table : All (Bounded n) s.table.types

module _ {n : ℕ} {s : Scope} (f : ScopeFine n s) (k : ℕ) (m : Message) where
  pub reads-name_in : Reads (IfSome Characters) (name_in s k m)
  unfolding name_in
  reads-name_in = reads_any (index k m) (reads-pure tt) λ i. reads-lift (string s.names i) (f.names.strings i)

  pub reads-class_name_in : Reads (IfSome Characters) (class_name_in s k m)
  unfolding class_name_in
  reads-class_name_in = reads_any (index k m) (reads-pure tt) λ i. reads-lift (qualified_name s.names i) (f.names.qualified_names i)

-- types, for a walk that gives fine ones
types_of_fine : (ts : List Argument) → All FineArgument ts → FineTypes (types_of ts)
types_of_fine [] p = tt
types_of_fine (a ∷ ts) p =
    (p.0.projection, p.0.blank, p.0.type.name, p.0.type.count, p.0.type.arguments, types_of_fine ts p.1)

-- a projection is one of the four
projection_few : (o : Option ℕ) → projection_of o ≤ star
projection_few none = omega arith
projection_few (some p) = if_ind (λ (n : ℕ). n ≤ star) (leb p star) (λ t. leb-true p star t) λ t. omega arith

star_fine : FineArgument (projected star blank)
star_fine = record { projection = omega arith; blank = λ e. (refl, refl, refl); type = record { name = tt; count = omega arith; arguments = tt } }

-- one that is no star, of a type that may not be there
some_fine : {p : ℕ} → p ≤ star → (p ≡ star → ⊥) → (o : Option Ty) → IfSome FineTy o → IfSome FineArgument (map_option (projected p) o)
some_fine few other none q = tt
some_fine few other (some t) q = record { projection = few; blank = λ e. absurd (other e); type = q }

module _ {n : ℕ} (few : n < 2 ^ 16) {s : Scope} (f : ScopeFine n s) where
  module _ (walk : Walk) (h : (d : ℕ) (m : Message) → Bounded n m → Reads FineTy (walk d m)) where
    pub reads-resolve_at : (d i : ℕ) → Reads (IfSome FineTy) (resolve_at walk s d i)
    unfolding resolve_at
    reads-resolve_at d i =
        if_ind (Reads (IfSome FineTy)) (ltb d max_depth) (λ t.
        reads-if_some (get_elem? s.table.types i) (all-at (Bounded n) s.table.types i f.table) (reads-pure tt) λ m b.
        reads-bind (h (d + 1) m b) λ t p. reads-pure (record { name = p.name; count = p.count; arguments = p.arguments })) λ t.
        reads-pure tt

    pub reads-type_in : (d inline indexed : ℕ) (m : Message) → Bounded n m → Reads (IfSome FineTy) (type_in walk s d inline indexed m)
    unfolding type_in
    reads-type_in d inline indexed m b =
        reads-bind (reads-lift (message inline m) (message-bounded inline m b)) λ t p.
        reads-if_some t p (reads_any (index indexed m) (reads-pure tt) (reads-resolve_at d)) λ inner b.
        reads-bind (h d inner b) λ it p. reads-pure p

    pub reads-argument_in : (d : ℕ) (m : Message) → Bounded n m → Reads (IfSome FineArgument) (argument_in walk s d m)
    unfolding argument_in projection_in
    reads-argument_in d m b =
        if_ind (Reads (IfSome FineArgument)) (eqb (projection_in m) star) (λ t. reads-enter (reads-pure star_fine)) λ t.
        reads-bind (reads-type_in d _ _ m b) λ o p. reads-pure (some_fine (projection_few (varint_of Type-Argument-projection m)) (eqb-false (projection_in m) star t) o p)

    pub reads-parse_at : (d : ℕ) (m : Message) → Bounded n m → Reads FineTy (parse_at walk s d m)
    unfolding parse_at
    reads-parse_at d m b =
        reads-enter (
        reads-bind (reads-lift (messages _ m) (messages-bounded _ m b)) λ arguments p.
        reads-bind (reads_kept (reads-argument_in (d + 1)) arguments p.0) λ ts q.
        reads-bind (reads-class_name_in f _ m) λ name c.
        reads-pure (record { name = c; count = omega (arith, types-many ts, p.1, q.1); arguments = types_of_fine ts q.0 }))

  pub reads-type_at : (k d : ℕ) (m : Message) → Bounded n m → Reads FineTy (type_at k s d m)
  unfolding type_at
  reads-type_at zero d m b = record { at = λ l. tt }
  reads-type_at (suc k) d m b = reads-parse_at (type_at k s) (reads-type_at k) d m b

  pub reads-declared_type : (inline indexed : ℕ) (m : Message) → Bounded n m → Reads (IfSome FineTy) (declared_type s inline indexed m)
  unfolding declared_type
  reads-declared_type = reads-type_in (type_at allowance s) (reads-type_at allowance) 0

pub reads-type_table_in : {n : ℕ} (k : ℕ) (m : Message) → Bounded n m → Reads (λ t. All (Bounded n) t.types) (type_table_in k m)
unfolding type_table_in
reads-type_table_in k m b =
    reads-bind (reads-lift (message _ m) (message-bounded _ m b)) λ t p.
    reads-if_some t p (reads-pure tt) λ table b.
    reads-bind (reads-lift (messages _ table) (messages-bounded _ table b)) λ types p. reads-pure p.0

-- signatures
or_else_fine : {A : Type 0} (P : A → Type 0) (a b : Option A) → IfSome P a → IfSome P b → IfSome P (or_else a b)
or_else_fine P none b p q = q
or_else_fine P (some a) b p q = p

signed_fine : (n : Text) (d : Option Text) → Characters n → IfSome Characters d → IfSome FineSignature (map_option (signed n) d)
signed_fine n none p q = tt
signed_fine n (some d) p q = record { name = p; descriptor = q }

both-signed : (n d : Option Text) → IfSome Characters n → IfSome Characters d → IfSome FineSignature (both_of signed n d)
both-signed none d p q = tt
both-signed (some n) d p q = signed_fine n d p q

forgiven_fine : {A : Type 0} (P : A → Type 0) (r : Res (Option A)) → Gives (IfSome P) r → IfSome P (forgiven r)
forgiven_fine P (ok o) p = p
forgiven_fine P (refused c place) p = tt

module _ {n : ℕ} {s : Scope} (f : ScopeFine n s) where
  module _ (fallback : Option Text) (c : IfSome Characters fallback) where
    pub reads-signature_of : (m : Message) → Bounded n m → Reads (IfSome FineSignature) (signature_of s fallback m)
    unfolding signature_of
    reads-signature_of m b =
        reads-bind (reads-name_in f _ m) λ own p.
        reads-if_some (or_else own fallback) (or_else_fine Characters own fallback p c) (reads-pure tt) λ name q.
        reads-bind (reads-name_in f _ m) λ descriptor r. reads-pure (signed_fine name descriptor q r)

    pub reads-signature_in : (k : ℕ) (m : Message) → Bounded n m → Reads (IfSome FineSignature) (signature_in s fallback k m)
    unfolding signature_in
    reads-signature_in k m b =
        reads-bind (reads-lift (message k m) (message-bounded k m b)) λ t p. reads-if_some t p (reads-pure tt) reads-signature_of

  pub reads-field_of : (m : Message) → Bounded n m → Reads (IfSome FineSignature) (field_of s m)
  unfolding field_of
  reads-field_of m b =
      reads-bind (reads-name_in f _ m) λ name p. reads-bind (reads-name_in f _ m) λ descriptor q. reads-pure (both-signed name descriptor p q)

  pub reads-field_in : (m : Message) → Bounded n m → Reads (IfSome FineSignature) (field_in s m)
  unfolding field_in
  reads-field_in m b =
      reads-if_some (forgiven (message _ m)) (forgiven_fine (Bounded n) (message _ m) (message-bounded _ m b)) (reads-pure tt) reads-field_of

pub reads-of_signature : {P : Message → Type 0} {read : Message → Read (Option Signature)}
    → ((m : Message) → P m → Reads (IfSome FineSignature) (read m)) → (o : Option Message) → IfSome P o
    → Reads (IfSome FineSignature) (of_signature read o)
reads-of_signature h none p = reads-pure tt
reads-of_signature h (some m) p = h m p

-- members
pub reads-named : {A : Type 0} {P : A → Type 0} {read : Text → Read A} (o : Option Text) → IfSome Characters o
    → ((t : Text) → Characters t → Reads P (read t)) → Reads (IfSome P) (named o read)
reads-named none c h = reads-pure tt
reads-named (some t) c h = reads-bind (h t c) λ a p. reads-pure p

omitted_below : (o : Option ℕ) → IfSome (λ v. v < 2 ^ 64) o → if_some o 6 (λ v. v) < 2 ^ 64
omitted_below none h = omega arith
omitted_below (some v) h = h

pub flags_in-below : {n : ℕ} (k : ℕ) (m : Message) → Bounded n m → flags_in k m < 2 ^ 64
flags_in-below k m b = omitted_below (varint_of k m) (varint_of-below k m b)

init_fine : Characters (ascii "<init>")
unfolding is_scalar
init_fine = (tt, (tt, (tt, (tt, (tt, (tt, tt))))))

pub reads-list_in : {A : Type 0} {n : ℕ} {Q : A → Type 0} {read : Message → Read (Option A)}
    → ((m : Message) → Bounded n m → Reads (IfSome Q) (read m)) → (k : ℕ) (m : Message) → Bounded n m
    → Reads (λ xs. All Q xs × (length xs ≤ n)) (list_in read k m)
unfolding list_in
reads-list_in h k m b =
    reads-bind (reads-lift (messages k m) (messages-bounded k m b)) λ ms p.
    reads_weaken (reads_kept h ms p.0) λ xs q. (q.0, omega (arith, p.1, q.1))

module _ {n : ℕ} (few : n < 2 ^ 16) {s : Scope} (f : ScopeFine n s) where
  pub reads-parameter_in : (m : Message) → Bounded n m → Reads FineParameter (parameter_in s m)
  unfolding parameter_in
  reads-parameter_in m b =
      reads-bind (reads-name_in f _ m) λ name c.
      reads-bind (reads-declared_type few f _ _ m b) λ type t.
      reads-bind (reads-declared_type few f _ _ m b) λ vararg v.
      reads-pure (record { name = c; type = t; vararg_element = v })

  reads-parameters_in : (k : ℕ) (m : Message) → Bounded n m → Reads (λ ps. All FineParameter ps × (length ps ≤ n)) (parameters_in s k m)
  unfolding parameters_in
  reads-parameters_in k m b =
      reads-bind (reads-lift (messages k m) (messages-bounded k m b)) λ ms p.
      reads_weaken (reads-each reads-parameter_in ms p.0) λ ps q. (q.0, omega (arith, p.1, q.1))

  pub reads-constructor_in : (m : Message) → Bounded n m → Reads (IfSome FineConstructor) (constructor_in s m)
  unfolding constructor_in
  reads-constructor_in m b =
      reads-bind (reads-parameters_in _ m b) λ parameters p.
      reads-bind (reads-signature_in f (some (ascii "<init>")) init_fine _ m b) λ signature t.
      reads-pure (record { flags = flags_in-below _ m b; count = lt_of_le_of_lt p.1 few; parameters = p.0; signature = t })

  pub reads-function_in : (m : Message) → Bounded n m → Reads (IfSome FineFunction) (function_in s m)
  unfolding function_in
  reads-function_in m b =
      reads-bind (reads-name_in f _ m) λ o c. reads-named o c λ name c.
      reads-bind (reads-parameters_in _ m b) λ parameters p.
      reads-bind (reads-declared_type few f _ _ m b) λ receiver v.
      reads-bind (reads-signature_in f (some name) c _ m b) λ signature t.
      reads-bind (reads-declared_type few f _ _ m b) λ returned r.
      reads-pure (record {
        name = c;
        flags = flags_in-below _ m b;
        count = lt_of_le_of_lt p.1 few;
        parameters = p.0;
        receiver = v;
        signature = t;
        returned = r;
      })

  pub reads-property_in : (m : Message) → Bounded n m → Reads (IfSome FineProperty) (property_in s m)
  unfolding property_in
  reads-property_in m b =
      reads-bind (reads-name_in f _ m) λ o c. reads-named o c λ name c.
      reads-bind (reads-lift (message _ m) (message-bounded _ m b)) λ signature b'.
      reads-bind (reads-of_signature (reads-field_in f) signature b') λ field x.
      reads-bind (reads-declared_type few f _ _ m b) λ receiver v.
      reads-bind (reads-of_signature (reads-signature_in f none tt _) signature b') λ getter y.
      reads-bind (reads-of_signature (reads-signature_in f none tt _) signature b') λ setter z.
      reads-bind (reads-declared_type few f _ _ m b) λ type t.
      reads-pure (record { name = c; flags = flags_in-below _ m b; field = x; getter = y; setter = z; receiver = v; type = t })

  pub reads-alias_in : (m : Message) → Bounded n m → Reads (IfSome FineAlias) (alias_in s m)
  unfolding alias_in
  reads-alias_in m b =
      reads-bind (reads-name_in f _ m) λ o c. reads-named o c λ name c.
      reads-bind (reads-declared_type few f _ _ m b) λ underlying u.
      reads-bind (reads-declared_type few f _ _ m b) λ expanded x.
      reads-pure (record { name = c; flags = flags_in-below _ m b; underlying = u; expanded = x })

  abbrev FineHead : Head → Type 0
  FineHead h = IfSome Characters h.name × (h.flags < 2 ^ 64)

  reads-head_in : (class : Bool) (m : Message) → Bounded n m → Reads FineHead (head_in class s m)
  reads-head_in true m b = reads-bind (reads-class_name_in f _ m) λ name c. reads-pure (c, flags_in-below _ m b)
  reads-head_in false m b = reads-pure (tt, omega arith)

  reads-constructors_in : (class : Bool) (m : Message) → Bounded n m
      → Reads (λ cs. All FineConstructor cs × (length cs ≤ n)) (constructors_in class s m)
  reads-constructors_in true m b = reads-list_in reads-constructor_in _ m b
  reads-constructors_in false m b = reads-pure (tt, omega arith)

  reads-lists_in : (class : Bool) (h : Head) (m : Message) → FineHead h → Bounded n m → Reads FineDeclarations (lists_in class h s m)
  unfolding lists_in
  reads-lists_in class h m c b =
      reads-bind (reads-constructors_in class m b) λ constructors p.
      reads-bind (reads-list_in reads-function_in (function_field class) m b) λ functions q.
      reads-bind (reads-list_in reads-property_in (property_field class) m b) λ properties r.
      reads-bind (reads-list_in reads-alias_in (alias_field class) m b) λ aliases t.
      reads-pure (record {
        name = c.0;
        flags = c.1;
        constructor_count = lt_of_le_of_lt p.1 few;
        function_count = lt_of_le_of_lt q.1 few;
        property_count = lt_of_le_of_lt r.1 few;
        alias_count = lt_of_le_of_lt t.1 few;
        constructors = p.0;
        functions = q.0;
        properties = r.0;
        aliases = t.0;
      })

  pub reads-after_table : (class : Bool) (m : Message) → Bounded n m → Reads FineDeclarations (after_table class s m)
  unfolding after_table
  reads-after_table class m b = reads-bind (reads-head_in class m b) λ h c. reads-lists_in class h m c b

-- What a class or a package comes to is fine.
module _ {names : Names} (fine : NamesFine names) {n : ℕ} {m : Message} (b : Bounded n m) (few : n < 2 ^ 16) (class : Bool) where
  reads-body_in : Reads FineDeclarations (body_in class names m)
  unfolding body_in
  reads-body_in =
      reads-bind (reads-type_table_in _ m b) λ table t.
      reads-after_table few (record { names = fine; table = t }) class m b

  pub body-fine : (l : ℕ) → Gives (λ r. FineDeclarations r.0) (body_in class names m l)
  body-fine = reads-body_in.at
