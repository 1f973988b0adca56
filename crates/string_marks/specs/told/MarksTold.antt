-- What marking the strings tells that a reading asks for.
-- Assumes nothing.
use Rattle.std.specs.Prelude.{◌≡◌, ◌⊎◌, Bool, true, List, ℕ, ◌+◌, ◌-◌, ◌<◌, length, get_or, if◌then◌else◌}
use Rattle.std.proofs.Math.Option.{Option, none, some}
use Rattle.foundation.specs.Choices.{is_some}
use Rattle.foundation.specs.Results as Results
use Rattle.foundation.specs.Results.{Res, ok, Part, ◌from◌}
use Rattle.foundation.specs.Texts.{Text}
use Rattle.fields.specs.Fields.{Property-property_signature, Type-Argument-type}
use Rattle.encoding.specs.Encoding.{decoded}
use Rattle.wire.specs.Wire.{Message, cut}
use Rattle.wire.specs.Messages.{bytes_of, message}
use Rattle.characters.specs.told.Places.{part_from}
use Rattle.names.specs.Records.{Record}
use Rattle.names.specs.Names.{Names, strings_from, d2_string, string}
use Rattle.lookup.specs.told.Lookups.{NotesOf}
use Rattle.schema.specs.Reading.{Read, TypeTable, Scope, scope, name_in, class_name_in}
use Rattle.declaration_rows.specs.Declarations.{Signature, Declarations}
use Rattle.schema.specs.Types.{max_depth, resolve_at, argument_in, type_at, declared_type}
use Rattle.schema.specs.Members.{signature_of, signature_in, field_in, of_signature}
use Rattle.schema.specs.told.Alike.{Alike, SameAtLast}
use Rattle.schema.specs.told.SchemaTold.{Lent, Scoped}
use Rattle.inputs.specs.Inputs.{carries_declarations}
use Rattle.declarations.specs.Payload.{payload}
use Rattle.passes.specs.Answered.{nothing_read}
use Rattle.strings.proofs.Agree.{Lookup, Asks, Leaves}

-- String n is asked for, and has a 1; or it is left, and has what it had.
abbrev pub MarkedBy : {A : Type 0} → List (List ℕ) → ℕ → (Lookup → Read A) → ℕ → (before after : ℕ) → Type 0
MarkedBy ss n r l before after = (Asks ss n (λ s. r s l) × (after ≡ 1)) ⊎ (Leaves ss n (λ s. r s l) × (after ≡ before))

-- Marks of what a reading r asks for by the strings ss: each string that it asks for has a 1 afterwards, each other what it had. Of a reading that is
-- refused nothing is told, not even that there are as many marks as before: what follows it isn't read then.
pub record Marks {A : Type 0} (ss : List (List ℕ)) (r : Lookup → Read A) (used used' : List ℕ) : Type 0 where
  pub many : (l l' : ℕ) (a : A) → r (d2_string ss) l ≡ ok (a, l') → length used' ≡ length used
  pub each : (l l' : ℕ) (a : A) → r (d2_string ss) l ≡ ok (a, l') → (n : ℕ) → n < length used → MarkedBy ss n r l (get_or used n 0) (get_or used' n 0)

-- The same of what counts no types.
abbrev pub AllMarked : {A : Type 0} → List (List ℕ) → (Lookup → Res A) → List ℕ → List ℕ → Type 0
AllMarked {A} ss r used used' =
    (a : A) → r (d2_string ss) ≡ ok a → (n : ℕ) → n < length used
    → (Asks ss n r × (get_or used' n 0 ≡ 1)) ⊎ (Leaves ss n r × (get_or used' n 0 ≡ get_or used n 0))

-- names and a scope of some records, with a look-up of d2's strings
abbrev pub names_by : List Record → Lookup → Names
names_by records s = record { records = records; d2 = s }

abbrev pub scope_by : List Record → TypeTable → Lookup → Scope
scope_by records table s = scope (names_by records s) table

-- the strings of d2 that are lent
abbrev pub strings_in : Lent → List (List ℕ)
strings_in e = strings_from 0 e.ends e.d2

-- What a function marks, of a message: with every name table and type table that are noted, what `read` reads.
pub record MarksIn (e : Lent) (base : ℕ) (msg : List ℕ) {A : Type 0} (read : Scope → Message → Read A) (used used' : List ℕ) : Type 0 where
  pub is : (records : List Record) (table : TypeTable) → Scoped e (scope_by records table (d2_string (strings_in e))) → (m : Message) → cut (◌from◌ base msg) ≡ ok m
      → Marks (strings_in e) (λ s. read (scope_by records table s) m) used used'

-- what looking up the string at an index marks
pub record StringMarked (e : Lent) (index : ℕ) (used used' : List ℕ) : Type 0 where
  pub many : length used' ≡ length used
  pub is : (records : List Record) → NotesOf e.payload e.notes e.tables.records records → AllMarked (strings_in e) (λ s. string (names_by records s) index) used used'

-- The name at the index in a field: the same as a class name.
pub record NameMarked (e : Lent) (base : ℕ) (msg : List ℕ) (number : ℕ) (used used' : List ℕ) : Type 0 where
  pub name : MarksIn e base msg (λ c. name_in c number) used used'
  pub class : MarksIn e base msg (λ c. class_name_in c number) used used'

-- What stands in a part, if it is there: at its place of the bytes that are lent for it stands what is read alike where no look-up is left.
abbrev pub PartTwin : Lent → Option Part → Type 0
PartTwin e none = Unit {0}
PartTwin e (some p) = Alike SameAtLast (cut p) (cut (◌from◌ p.at (part_from p.at (p.at + length p.bytes) e.deepest)))

-- That it is so of a type that stands in the type table, as an entry or inline in one; and of the type inline in an argument there.
abbrev pub TypeTwin : Lent → (in_table : Bool) → ℕ → List ℕ → Type 0
TypeTwin e in_table base msg = in_table ≡ true → PartTwin e (some (◌from◌ base msg))

abbrev pub InlineTwin : Lent → (in_table : Bool) → ℕ → List ℕ → Type 0
InlineTwin e in_table base msg = in_table ≡ true → (a : Message) → cut (◌from◌ base msg) ≡ ok a → PartTwin e (bytes_of Type-Argument-type a)

-- A type, with so much left of the depth, and however deep it may nest; an argument in the same way.
abbrev pub TypeMarked : Lent → ℕ → List ℕ → (left : ℕ) → (in_table : Bool) → List ℕ → List ℕ → Type 0
TypeMarked e base msg left in_table used used' =
    TypeTwin e in_table base msg → (k d : ℕ) → left ≡ max_depth - d → MarksIn e base msg (λ c. type_at k c d) used used'

abbrev pub ArgumentMarked : Lent → ℕ → List ℕ → (left : ℕ) → (in_table : Bool) → List ℕ → List ℕ → Type 0
ArgumentMarked e base msg left in_table used used' =
    InlineTwin e in_table base msg → (k d : ℕ) → left ≡ max_depth - d → MarksIn e base msg (λ c. argument_in (type_at k c) c d) used used'

-- the type at an index of the type table
abbrev pub LookedMarked : Lent → (index left : ℕ) → List ℕ → List ℕ → Type 0
LookedMarked e index left used used' =
    (k d : ℕ) → left ≡ max_depth - d → (records : List Record) (table : TypeTable) → Scoped e (scope_by records table (d2_string (strings_in e)))
    → Marks (strings_in e) (λ s. resolve_at (type_at k (scope_by records table s)) (scope_by records table s) d index) used used'

-- a declaration's own type
abbrev pub DeclaredMarked : Lent → ℕ → List ℕ → (inline indexed : ℕ) → List ℕ → List ℕ → Type 0
DeclaredMarked e base msg inline indexed used used' = MarksIn e base msg (λ c. declared_type c inline indexed) used used'

-- A signature, in its own message and in a field, by whether its name may fall back.
abbrev pub SignatureMarked : Lent → ℕ → List ℕ → Bool → List ℕ → List ℕ → Type 0
SignatureMarked e base msg named used used' = (fallback : Option Text) → is_some fallback ≡ named → MarksIn e base msg (λ c. signature_of c fallback) used used'

abbrev pub SignatureInMarked : Lent → ℕ → List ℕ → (number : ℕ) → Bool → List ℕ → List ℕ → Type 0
SignatureInMarked e base msg number named used used' = (fallback : Option Text) → is_some fallback ≡ named → MarksIn e base msg (λ c. signature_in c fallback number) used used'

-- What is read of a property's signature message, in the property's own.
abbrev pub SignatureMessageMarked : Lent → ℕ → List ℕ → (Scope → Message → Read (Option Signature)) → List ℕ → List ℕ → Type 0
SignatureMessageMarked e base msg read used used' =
    (records : List Record) (table : TypeTable) → Scoped e (scope_by records table (d2_string (strings_in e))) → (m : Message) → cut (◌from◌ base msg) ≡ ok m
    → (o : Option Message) → message Property-property_signature m ≡ ok o → Marks (strings_in e) (λ s. of_signature (read (scope_by records table s)) o) used used'

abbrev pub FieldMarked : Lent → ℕ → List ℕ → List ℕ → List ℕ → Type 0
FieldMarked e base msg used used' = SignatureMessageMarked e base msg field_in used used'

abbrev pub AccessorMarked : Lent → ℕ → List ℕ → (number : ℕ) → List ℕ → List ℕ → Type 0
AccessorMarked e base msg number used used' = SignatureMessageMarked e base msg (λ c. signature_in c none number) used used'

-- what the decoded bytes ask for; and what d1 does, which is to be decoded
abbrev pub BytesMarked : (kind : ℕ) (d2 ends bytes used used' : List ℕ) → Type 0
BytesMarked kind d2 ends bytes used used' = AllMarked (strings_from 0 ends d2) (λ s. payload kind s bytes) used used'

abbrev pub DecodedMarked : (kind : ℕ) (d1 d2 ends used used' : List ℕ) → Type 0
DecodedMarked kind d1 d2 ends used used' = AllMarked (strings_from 0 ends d2) (λ s. Results.◌>>=◌ (decoded d1) (payload kind s)) used used'

-- and what is read of any kind
abbrev pub read_by : ℕ → List ℕ → Lookup → Res (Declarations × ℕ)
read_by kind d1 s = let body = Results.◌>>=◌ (decoded d1) (payload kind s) in if carries_declarations kind then body else nothing_read

abbrev pub KindMarked : (kind : ℕ) (d1 d2 ends used used' : List ℕ) → Type 0
KindMarked kind d1 d2 ends used used' = AllMarked (strings_from 0 ends d2) (read_by kind d1) used used'
