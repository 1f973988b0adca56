-- What one walk of a type's message tells of its own fields.
-- Assumes nothing.
use Rattle.std.specs.Prelude.{◌≡◌, Bool, true, false, List, [], ◌∷◌, ℕ}
use Rattle.std.specs.declared.option.Option.{Option}
use Rattle.std.specs.declared.option.Option.TheVariants.{Some, None}
use Rattle.foundation.specs.Results.{ok, Part, ◌from◌}
use Rattle.fields.specs.Fields.{Type-argument, Type-nullable, Type-class_name}
use Rattle.wire.specs.Wire.{Message, cut}
use Rattle.wire.specs.Messages.{index, flag}
use Rattle.messages.specs.told.Asked.{index_told, bodies}
use Rattle.schema.specs.declared.head.Seen.{Seen}
use Rattle.schema.specs.declared.head.TypeHead.{TypeHead}
use Rattle.foundation.specs.declared.Span.{Span}

abbrev pub is_body : Option Span → Bool
is_body (Some p) = true
is_body None = false

-- whether there is one
abbrev pub any_of : List Part → Bool
any_of [] = false
any_of (p ∷ ps) = true

-- Of a message m all was seen but its rest. A field that was seen is known; else what the rest says of it counts.
abbrev pub NameKnown : Option (Option ℕ) → Message → Message → Type 0
NameKnown (Some x) m rest = index Type-class_name m ≡ index_told x
NameKnown None m rest = index Type-class_name m ≡ index Type-class_name rest

abbrev pub FlagKnown : Option Bool → Message → Message → Type 0
FlagKnown (Some x) m rest = flag Type-nullable m ≡ x
FlagKnown None m rest = flag Type-nullable m ≡ flag Type-nullable rest

abbrev pub ArgumentsKnown : Bool → Message → Message → Type 0
ArgumentsKnown true m rest = any_of (bodies Type-argument m) ≡ true
ArgumentsKnown false m rest = bodies Type-argument m ≡ bodies Type-argument rest

pub record Known (x : Seen) (m rest : Message) : Type 0 where
  pub name : NameKnown x.name m rest
  pub nullable : FlagKnown x.nullable m rest
  pub arguments : ArgumentsKnown x.arguments m rest

-- a type's own fields, and whether it has an argument
pub record HeadTold (base : ℕ) (s : List ℕ) (r : TypeHead) : Type 0 where
  pub name : (m : Message) → cut (◌from◌ base s) ≡ ok m → index Type-class_name m ≡ index_told r.name
  pub nullable : (m : Message) → cut (◌from◌ base s) ≡ ok m → flag Type-nullable m ≡ r.nullable
  pub arguments : (m : Message) → cut (◌from◌ base s) ≡ ok m → any_of (bodies Type-argument m) ≡ r.arguments
