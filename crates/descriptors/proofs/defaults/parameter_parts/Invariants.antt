use mathlib.Core.Path.{◌≡◌}
use lib.ListN.{length}
use Rattle.messages.proofs.BodiesLaws.{Goes}
use Rattle.schema.specs.told.SchemaTold.{lent}
use Rattle.descriptors.proofs.DefaultLaws.{Parting}
use Rattle.descriptors.proofs.defaults.parameter_parts.Given as goal

abbrev pub invariant-loop-parameter : goal.invariant-loop-parameter
invariant-loop-parameter l =
    Goes l.parameter-iterator l.msg.base l.msg.bytes.now l.number
    × Parting (lent l.context) l.msg.bytes.now l.msg.base l.number l.at l.initial.area l.parameter-iterator.at l.size l.area
    × (length l.area ≡ length l.initial.area)
