-- Types inside types, one after the other: the arguments that wait while an inner type is read, and the rows that they come to.
-- Assumes nothing.
use Rattle.std.specs.Prelude.{◌≡◌, List, [], ◌∷◌, ◌++◌, ℕ, zero, suc, ◌+◌, ◌-◌, ◌≤◌, length, get_or}
use Rattle.std.proofs.Math.Option.{Option, none, some}
use Rattle.foundation.specs.Choices.{All}
use Rattle.foundation.specs.Results.{Res, ok, refused, ◌from◌}
use Rattle.fields.specs.Fields.{Type-argument}
use Rattle.wire.specs.Wire.{Message, cut}
use Rattle.wire.specs.Messages.{messages}
use Rattle.characters.specs.told.Places.{part_from}
use Rattle.sheet.specs.Rows.{Row}
use Rattle.declaration_rows.specs.Declarations.{Argument, types_of}
use Rattle.schema.specs.Reading.{Read, pure, ◌>>=◌, kept, Scope, allowance}
use Rattle.schema.specs.Types.{max_depth, argument_in, type_at}
use Rattle.declaration_rows.specs.Rows.{argument_role, types_rows}
use Rattle.schema.specs.told.TypesTold.{rows_in}
use Rattle.schema.specs.told.Alike.{ArgumentTwin}
use Rattle.type_references.specs.declared.waiting.Waiting.{Waiting}

-- what is read, as the rows that it comes to
abbrev pub rows_read : {A : Type 0} → (A → List Row) → Res (A × ℕ) → Res (List Row × ℕ)
rows_read rows (ok r) = ok (rows r.0, r.1)
rows_read rows (refused c p) = refused c p

-- some rows, then those
abbrev pub prefixed : List Row → Res (List Row × ℕ) → Res (List Row × ℕ)
prefixed rs (ok r) = ok (rs ++ r.0, r.1)
prefixed rs (refused c p) = refused c p

-- the rows of an argument, and of one that may not be kept
abbrev pub shown_rows : Argument → List Row
shown_rows a = rows_in argument_role a.projection a.type

abbrev pub kept_rows : Option Argument → List Row
kept_rows none = []
kept_rows (some a) = shown_rows a

abbrev pub argument_rows : List Argument → List Row
argument_rows ts = types_rows argument_role (types_of ts)

-- The arguments of a type that are still to be read, and their depth.
pub record Wait : Type 0 where
  pub depth : ℕ
  pub arguments : List Message

abbrev pub waits : ℕ → List Message → Wait
waits depth arguments = record { depth = depth; arguments = arguments }

-- The rows of all arguments that wait, those of the innermost type first.
unfoldable pub pending : Scope → List Wait → Read (List Row)
pending c [] = pure []
pending c (w ∷ ws) =
    kept (argument_in (type_at allowance c) c w.depth) w.arguments >>= λ ts. pending c ws >>= λ rs. pure (argument_rows ts ++ rs)

-- what the area that is lent holds at a height
abbrev pub waiting_at : List Waiting → ℕ → Waiting
waiting_at nest height = get_or nest height (record { at = 0; end = 0; left = 0 })

-- Some arguments, which stand from a place to an end of a message, are some of those of a type that stands around them. In other bytes, which begin
-- where the message does, a type that is alike where no look-up is left stands at the place of each type inline in them.
pub record Twinned (base : ℕ) (last : List ℕ) (at end : ℕ) (arguments : List Message) : Type 0 where
  pub start : ℕ
  pub until : ℕ
  pub after : start ≤ at
  pub before : end ≤ until
  pub short : until ≤ length last
  pub each : All (ArgumentTwin (base + start) (part_from start until last)) arguments

-- What waits from a place to an end of the message: its arguments from there on.
pub record Pends (base : ℕ) (msg last : List ℕ) (at end left : ℕ) (w : Wait) : Type 0 where
  pub rest : Message
  pub cuts : cut (◌from◌ (base + at) (part_from at end msg)) ≡ ok rest
  pub many : messages Type-argument rest ≡ ok w.arguments
  pub deep : left ≡ max_depth - w.depth
  pub twins : Twinned base last at end w.arguments

-- What the area holds below a height, the last one first.
abbrev pub Stacked : ℕ → (msg last : List ℕ) → List Waiting → ℕ → List Wait → Type 0
Stacked base msg last nest height [] = height ≡ 0
Stacked base msg last nest height (w ∷ ws) =
    (h : ℕ) × (height ≡ suc h) × Pends base msg last (waiting_at nest h).at (waiting_at nest h).end (waiting_at nest h).left w
    × Stacked base msg last nest h ws

-- That it stands inside the message, whatever is lent, no less deep than a type's arguments.
pub record PendingInside (msg : List ℕ) (left : ℕ) (w : Waiting) : Type 0 where
  pub ordered : w.at ≤ w.end
  pub short : w.end ≤ length msg
  pub deep : w.left ≤ left

-- How many bytes of the message wait, and one for each that waits.
unfoldable pub weight : List Waiting → ℕ → ℕ
weight nest zero = 0
weight nest (suc h) = suc ((waiting_at nest h).end - (waiting_at nest h).at) + weight nest h
