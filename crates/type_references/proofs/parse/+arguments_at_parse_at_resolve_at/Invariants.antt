use Rattle.schema.specs.told.SchemaTold.{lent}
use Rattle.sheet.specs.told.Put.{SameAreas}
use mathlib.Core.Path.{◌≡◌}
use Prim.Native.Nat.{◌+◌, ◌*◌}
use lib.ListN.{length}
use Rattle.type_references.proofs.WalkLaws.{WalkLoop, turns}
use Rattle.type_references.proofs.CycleLaws.{remaining}
use Rattle.type_references.proofs.parse.+arguments_at_parse_at_resolve_at.Given as goal

abbrev pub decreases-arguments_at : goal.decreases-arguments_at
decreases-arguments_at l = 3 * remaining l.left (length l.msg.bytes.now) + 1

abbrev pub decreases-parse_at : goal.decreases-parse_at
decreases-parse_at l = 3 * remaining l.place.reached.left (length l.msg.bytes.now) + 2

abbrev pub decreases-resolve_at : goal.decreases-resolve_at
decreases-resolve_at l = 3 * remaining l.left 0

abbrev pub invariant-arguments_at-loop-part : goal.invariant-arguments_at-loop-part
invariant-arguments_at-loop-part l = WalkLoop (lent l.context) l.msg.bytes.now l.last.bytes.now l.msg.base l.left l.initial.out.state l.initial.out.sheet.now l.initial.out.text.now l.at l.end l.deep l.height l.out.state l.out.sheet.now l.out.text.now l.nest × (length l.nest ≡ length l.initial.nest) × SameAreas l.initial.out l.out

abbrev pub decreases-arguments_at-loop-part : goal.decreases-arguments_at-loop-part
decreases-arguments_at-loop-part l = turns l.nest l.height l.at l.end
