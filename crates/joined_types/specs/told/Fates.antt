-- What becomes of a field where others are joined, and what joining a body keeps.
-- Assumes nothing.
use Rattle.std.specs.Prelude.{◌≡◌, ◌≢◌, Bool, true, false, List, ℕ, ◌-◌, length, take, drop, Some, None}
use Rattle.std.specs.declared.option.Option as rust
use Rattle.foundation.specs.Results.{ok, ◌>>=◌, ◌from◌}
use Rattle.foundation.specs.declared.Span.{Span}
use Rattle.fields.specs.Fields.{Type-argument, Type-nullable, Type-class_name, Type-Argument-projection, Type-Argument-type, Type-Argument-type_id, TypeTable-type}
use Rattle.wire.specs.Wire.{Message, cut}
use Rattle.wire.specs.told.WireTold.{piece_of}
use Rattle.wire.specs.declared.Field as code
use Rattle.wire.specs.declared.WireValue.TheVariants as wire
use Rattle.messages.specs.told.Asked.{bodies}
use Rattle.names.specs.Names.{Names}
use Rattle.schema.specs.Members.{body_in}
use Rattle.schema.specs.told.Alike.{Dropped}
use Rattle.joined_types.specs.declared.Fate.{Fate}
use Rattle.joined_types.specs.declared.Fate.TheVariants as fate
use Rattle.joined_types.specs.declared.TypeSeen.{TypeSeen}
use Rattle.joined_types.specs.declared.ArgumentSeen.{ArgumentSeen}

-- how many types inside one another are joined
abbrev pub joined_levels : ℕ
joined_levels = 128

-- An argument that, if it is cut, is dropped wherever it is read. Of another nothing is told.
abbrev pub NoTypeTold : ℕ → ℕ → List ℕ → Bool → Type 0
NoTypeTold n base s true = (m : Message) → cut (◌from◌ base s) ≡ ok m → Dropped n m
NoTypeTold n base s false = Unit {0}

-- An argument that is dropped is cut wherever it stands, and `Dropped`. Of another nothing is told.
abbrev pub DroppedTold : ℕ → List ℕ → Bool → Type 0
DroppedTold n s true = (base : ℕ) → (m : Message) × (cut (◌from◌ base s) ≡ ok m) × Dropped n m
DroppedTold n s false = Unit {0}

-- a body in a slice that is an argument which is dropped, or no body
abbrev pub NoArgument : ℕ → List ℕ → rust.Option Span → Type 0
NoArgument n s None = Unit {0}
NoArgument n s (Some p) = DroppedTold n (take (p.end - p.start) (drop p.start s)) true

-- What becomes of a field of a type's message in s, after those that were seen.
pub record TypeJoins (n : ℕ) (s : List ℕ) (seen : TypeSeen) (f : code.Field) : Type 0 where
  pub argument : f.number ≡ Type-argument → NoArgument n s (piece_of f.value)
  pub named : f.number ≡ Type-class_name → seen.named ≡ true
  pub flagged : f.number ≡ Type-nullable → seen.flagged ≡ true

abbrev pub TypeFate : ℕ → List ℕ → TypeSeen → code.Field → Fate → Type 0
TypeFate n s seen f fate.Joined = TypeJoins n s seen f
TypeFate n s seen f fate.Kept = f.number ≢ Type-argument
TypeFate n s seen f (fate.Inner p) = (f.number ≡ Type-argument) × (f.value ≡ wire.Body p)

-- the same of a field of an argument's message
pub record ArgumentJoins (seen : ArgumentSeen) (f : code.Field) : Type 0 where
  pub projected : f.number ≡ Type-Argument-projection → seen.projected ≡ true
  pub inlined : f.number ≡ Type-Argument-type → seen.inlined ≡ true
  pub indexed : f.number ≡ Type-Argument-type_id → seen.indexed ≡ true

abbrev pub ArgumentFate : ArgumentSeen → code.Field → Fate → Type 0
ArgumentFate seen f fate.Joined = ArgumentJoins seen f
ArgumentFate seen f fate.Kept = Unit {0}
ArgumentFate seen f (fate.Inner p) = (f.number ≡ Type-Argument-type) × (f.value ≡ wire.Body p)

-- so many entries has the type table in a message
abbrev pub EntriesCounted : List ℕ → ℕ → Type 0
EntriesCounted s n = (base : ℕ) (m : Message) → cut (◌from◌ base s) ≡ ok m → length (bodies TypeTable-type m) ≡ n

-- What the bytes of a body become: as many, and wherever they stand among the decoded bytes the same is read of them.
pub record BodyJoined (s s' : List ℕ) : Type 0 where
  pub many : length s' ≡ length s
  pub reads : (base : ℕ) (class : Bool) (names : Names) (left : ℕ)
      → (cut (◌from◌ base s') >>= λ m. body_in class names m left) ≡ (cut (◌from◌ base s) >>= λ m. body_in class names m left)
