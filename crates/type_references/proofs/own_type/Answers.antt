use mathlib.Core.Path.{refl}
use native.Mathlib.Omega.{arith}
use Rattle.type_references.specs.told.ParseTold.{no_area}
use Rattle.type_references.proofs.CycleLaws.{alone}
use Rattle.type_references.proofs.own_type.Goals as goal

pub type_in_area-requires : goal.type_in_area-requires
type_in_area-requires c = (c.requires.0, c.requires.1, c.requires.2, no_area refl (alone c.next_body.ensures c.in_default.is), omega arith)
