-- What one walk of an argument's message tells of its own fields.
-- Assumes nothing.
use Rattle.std.specs.Prelude.{◌≡◌, ◌≢◌, List, ℕ, ◌≤◌, ◌<◌, length}
use Rattle.std.proofs.Math.Option.{none, some}
use Rattle.foundation.specs.Results.{ok, ◌from◌}
use Rattle.fields.specs.Fields.{Type-Argument-type, Type-Argument-type_id}
use Rattle.wire.specs.Wire.{Message, cut}
use Rattle.wire.specs.Messages.{index, bytes_of}
use Rattle.wire.specs.told.WireTold.{part_between}
use Rattle.declaration_rows.specs.Declarations.{invariant, star}
use Rattle.schema.specs.Types.{projection_in}
use Rattle.schema.specs.declared.argument.Projection.{Projection}
use Rattle.schema.specs.declared.argument.Projection.TheVariants as projection
use Rattle.schema.specs.declared.argument.ArgumentHead.{ArgumentHead}
use Rattle.schema.specs.declared.argument.ArgumentHead.TheVariants as argument

-- the number of a projection
abbrev pub projection_number : Projection → ℕ
projection_number projection.In = 0
projection_number projection.Out = 1
projection_number projection.Invariant = invariant
projection_number projection.Star = star

-- an argument that is no star, of that projection
pub record NoStar (p : ℕ) (m : Message) : Type 0 where
  pub is : projection_in m ≡ p
  pub no-star : p ≢ star

-- Of a star nothing else is told. Another argument has its type inline, in a part of its message, else by its index, or has none.
abbrev pub ArgumentHeadIs : ℕ → List ℕ → Message → ArgumentHead → Type 0
ArgumentHeadIs base msg m argument.Star = projection_in m ≡ star
ArgumentHeadIs base msg m (argument.Inline p b) = NoStar (projection_number p) m × (bytes_of Type-Argument-type m ≡ some (part_between base msg b.start b.end))
ArgumentHeadIs base msg m (argument.ByIndex p i) = NoStar (projection_number p) m × (bytes_of Type-Argument-type m ≡ none) × (index Type-Argument-type_id m ≡ some i)
ArgumentHeadIs base msg m argument.Nothing =
    NoStar (projection_in m) m × (bytes_of Type-Argument-type m ≡ none) × (index Type-Argument-type_id m ≡ none)

abbrev pub ArgumentHeadInside : List ℕ → ArgumentHead → Type 0
ArgumentHeadInside msg argument.Star = Unit {0}
ArgumentHeadInside msg (argument.Inline p b) = (b.start ≤ b.end) × (b.end ≤ length msg) × (0 < b.start)
ArgumentHeadInside msg (argument.ByIndex p i) = Unit {0}
ArgumentHeadInside msg argument.Nothing = Unit {0}

pub record ArgumentHeadTold (base : ℕ) (msg : List ℕ) (r : ArgumentHead) : Type 0 where
  pub is : (m : Message) → cut (◌from◌ base msg) ≡ ok m → ArgumentHeadIs base msg m r
  pub inside : ArgumentHeadInside msg r
