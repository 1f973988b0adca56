use mathlib.Core.List.{[]}
use Rattle.std.specs.Prelude.{Result}
use Rattle.wire.specs.Wire.{cut}
use Rattle.wire.specs.told.WireTold.{rest_of}
use Rattle.wire.specs.declared.WireError.{WireError}
use Rattle.wire.proofs.FieldsLaws.{Walks}
use Rattle.messages.specs.told.Asked.{CheckedTold}
use Rattle.messages.proofs.check_from.Given as goal

abbrev pub invariant-loop-field : goal.invariant-loop-field
invariant-loop-field l =
    Walks l.field-iterator l.s.base l.s.bytes.now []
    × ((c : Result Unit WireError) → CheckedTold (cut (rest_of l.s.base l.s.bytes.now l.field-iterator.at)) c → CheckedTold (cut (rest_of l.s.base l.s.bytes.now l.at)) c)
