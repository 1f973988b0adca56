-- What the writers of default descriptors tell, where a reading has accepted.
-- Assumes nothing.
use Rattle.std.specs.Prelude.{◌≡◌, Bool, true, List, map, ℕ, ◌+◌, ◌-◌, ◌*◌, ◌^◌, ◌≤◌, ◌<◌}
use Rattle.std.proofs.Math.Option.{Option, none, some}
use Rattle.foundation.specs.Choices.{map_option, every_of, concat}
use Rattle.foundation.specs.Results.{ok}
use Rattle.wire.specs.Wire.{Message}
use Rattle.declaration_rows.specs.Declarations.{Ty, single, Parameter, Constructor, Function}
use Rattle.schema.specs.Reading.{Scope}
use Rattle.schema.specs.Members.{parameters_in, constructor_in, function_in}
use Rattle.schema.specs.told.SchemaTold.{Lent, Scoped, EntryAt}
use Rattle.schema.specs.told.TypesTold.{or_nullable}
use Rattle.schema.specs.told.PlacesTold.{read_in, TypeFound, Twins}
use Rattle.erasure.specs.Erasure.{first_erased, erased, Returned, of_type, erased_return, print, print_returned}
use Rattle.erasure.specs.told.ErasureTold.{PutSized}
use Rattle.erasure.specs.declared.Position.{Position}
use Rattle.erasure.specs.declared.Position.TheVariants as position
use Rattle.std.specs.Prelude as std
use Rattle.std.specs.Prelude.{Some, None}
use Rattle.descriptors.specs.Defaults.{erased_option, parameter_types, function_parts, constructor_parts, descriptor}

-- The erasure of a type at its position.
abbrev pub erased_at : Position → Ty → Option Returned
erased_at position.Parameter t = map_option of_type (erased t)
erased_at position.Element t = map_option of_type (first_erased true (single t))
erased_at position.Return t = erased_return t

-- How many bytes a part takes at most: a name, L and ;, and as many [ as messages can be nested.
abbrev pub part_cost : ℕ
part_cost = 2 ^ 22

-- a text of at most n bytes
abbrev pub PartWithin : ℕ → std.Option ℕ → Type 0
PartWithin n (Some size) = size ≤ n
PartWithin n None = Unit {0}

-- The text was written from a place on, or there is none; then the area holds anything.
abbrev pub PartTold : Option (List ℕ) → ℕ → std.Option ℕ → List ℕ → List ℕ → Type 0
PartTold o at (Some size) A A' = (text : List ℕ) × (o ≡ some text) × PutSized text at size A A'
PartTold o at None A A' = o ≡ none

-- A type that a reading has given, found for the walk: among the bytes in which it is read, and as it is read where no look-up is left, while there is one.
pub record ReadFound (e : Lent) (c : Scope) (start end left : ℕ) (in_table : Bool) (t : Ty) : Type 0 where
  pub found : TypeFound (read_in e.payload e.deepest in_table left) c start end left t
  pub twins : in_table ≡ true → 1 < left → Twins e.payload e.deepest start end

-- the part of one type
pub record ErasedTold (e : Lent) (start end left : ℕ) (nullable in_table : Bool) (position : Position) (at : ℕ) (r : std.Option ℕ)
    (A A' : List ℕ) : Type 0 where
  pub within : PartWithin part_cost r
  pub is : (c : Scope) → Scoped e c → (t : Ty) → ReadFound e c start end left in_table t
      → PartTold (map_option print_returned (erased_at position (or_nullable nullable t))) at r A A'

-- what the parts of parameters come to
abbrev pub parameters_part : List Parameter → Option (List ℕ)
parameters_part ps = map_option (λ es. concat (map print es)) (every_of (map erased_option (parameter_types ps)))

-- the parts of the parameters in field `number` of the message from start to end
pub record ParametersTold (e : Lent) (start end number at : ℕ) (r : std.Option ℕ) (A A' : List ℕ) : Type 0 where
  pub within : PartWithin (part_cost * (end - start)) r
  pub is : (c : Scope) → Scoped e c → (m : Message) → EntryAt e.payload start end m → (ps : List Parameter) (l b : ℕ)
      → parameters_in c number m l ≡ ok (ps, b) → PartTold (parameters_part ps) at r A A'

-- the default descriptors of the constructor or function in the message from start to end
pub record ConstructorDefault (e : Lent) (start end at : ℕ) (r : std.Option ℕ) (A A' : List ℕ) : Type 0 where
  pub within : PartWithin (part_cost * (4 + (end - start))) r
  pub is : (c : Scope) → Scoped e c → (m : Message) → EntryAt e.payload start end m → (d : Constructor) (l b : ℕ)
      → constructor_in c m l ≡ ok (some d, b) → PartTold (map_option descriptor (constructor_parts d)) at r A A'

pub record FunctionDefault (e : Lent) (start end at : ℕ) (r : std.Option ℕ) (A A' : List ℕ) : Type 0 where
  pub within : PartWithin (part_cost * (4 + (end - start))) r
  pub is : (c : Scope) → Scoped e c → (m : Message) → EntryAt e.payload start end m → (f : Function) (l b : ℕ)
      → function_in c m l ≡ ok (some f, b) → PartTold (map_option descriptor (function_parts f)) at r A A'
