-- What the writers of the parts of default descriptors tell: the part of a type, of what stands before and after the ).
-- Assumes nothing.
use Rattle.std.specs.Prelude.{◌≡◌, List, [], ◌∷◌, ◌++◌, map, ℕ, ◌+◌, ◌^◌, ◌≤◌, length, if◌then◌else◌}
use Rattle.std.proofs.Math.Option.{Option, none, some}
use Rattle.foundation.specs.Choices.{if_some, map_option, every_of, concat}
use Rattle.foundation.specs.Results.{ok}
use Rattle.fields.specs.Fields.{Function-return_type, Function-receiver_type, Function-value_parameter, Function-return_type_id, Function-receiver_type_id, Function-flags}
use Rattle.wire.specs.Wire.{Message}
use Rattle.declaration_rows.specs.Declarations.{Ty, Function}
use Rattle.schema.specs.Reading.{Read, Scope}
use Rattle.schema.specs.Types.{declared_type}
use Rattle.schema.specs.Members.{flags_in, receiver_in, parameters_in}
use Rattle.schema.specs.told.SchemaTold.{Lent, Scoped, EntryAt, Stands}
use Rattle.erasure.specs.Erasure.{erased_return, print, print_returned}
use Rattle.erasure.specs.declared.Position.{Position}
use Rattle.erasure.specs.declared.Position.TheVariants as position
use Rattle.std.specs.Prelude as std
use Rattle.std.specs.Prelude.{Some, None}
use Rattle.descriptors.specs.Defaults.{erased_option, types_before, suspends, continuation_class, object}
use Rattle.descriptors.specs.told.DefaultsTold.{erased_at, PartWithin, PartTold}

-- What a writer of parts starts from: decoded bytes and d2 of 32,768 at most, a message that stands among the decoded bytes, and n bytes
-- that can be counted from a place on.
pub record PartRoom (e : Lent) (msg : List ℕ) (base n at : ℕ) : Type 0 where
  pub payload-short : length e.payload ≤ 32768
  pub d2-short : length e.d2 ≤ 32768
  pub stands : Stands e.payload msg base
  pub room : at + n ≤ 2 ^ 61

-- A reading has given this, with some types left before and after.
pub record Gave {A : Type 0} (read : Read A) (a : A) : Type 0 where
  pub before : ℕ
  pub after : ℕ
  pub is : read before ≡ ok (a, after)

-- The part of what was given of the message from start to end, of n bytes at most, was written.
pub record PartOf {A : Type 0} (given : Scope → Message → A → Type 0) (part : A → Option (List ℕ)) (n : ℕ) (e : Lent) (start end at : ℕ) (r : std.Option ℕ)
    (A₀ A₁ : List ℕ) : Type 0 where
  pub within : PartWithin n r
  pub is : (c : Scope) → Scoped e c → (m : Message) → EntryAt e.payload start end m → (a : A) → given c m a → PartTold (part a) at r A₀ A₁

-- a type that a reading gave
abbrev pub TypeGiven : ℕ → ℕ → Scope → Message → Option Ty → Type 0
TypeGiven inline indexed c m = Gave (declared_type c inline indexed m)

abbrev pub type_part : Position → Option Ty → Option (List ℕ)
type_part position t = if_some t none λ t. map_option print_returned (erased_at position t)

-- what was read of a function, in the order of its fields
pub record FunctionGiven (c : Scope) (m : Message) (f : Function) : Type 0 where
  pub parameters : Gave (parameters_in c Function-value_parameter m) f.parameters
  pub receiver : TypeGiven Function-receiver_type Function-receiver_type_id c m f.receiver
  pub returned : TypeGiven Function-return_type Function-return_type_id c m f.returned
  pub flags : f.flags ≡ flags_in Function-flags m
  pub has_receiver : f.has_receiver ≡ receiver_in f.receiver Function-receiver_type_id m

-- the receiver's part; no text without one
abbrev pub receiver_part : Function → Option (List ℕ)
receiver_part f = if f.has_receiver then type_part position.Parameter f.receiver else some []

-- the parts of the types before the return
abbrev pub before_part : Function → Option (List ℕ)
before_part f = map_option (λ es. concat (map print es)) (every_of (map erased_option (types_before f)))

-- the continuation of a suspending function, ), and the return's part
abbrev pub after_part : Function → Option (List ℕ)
after_part f =
    let returned = map_option (λ r. 0x29 ∷ print_returned r) (if_some f.returned none erased_return) in
    if suspends f then some (print continuation_class ++ (0x29 ∷ print object)) else returned

-- a part with n bytes before it
abbrev pub preceded : ℕ → std.Option ℕ → std.Option ℕ
preceded n (Some size) = Some (n + size)
preceded n None = None
