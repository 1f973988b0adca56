use native.Mathlib.Omega.{arith}
use Rattle.lookup.proofs.IndexLaws.{place-told}
use Rattle.lookup.proofs.place_of.Goals as goal

pub returns : goal.returns
returns c = place-told c.args.bytes.now c.args.notes.now c.args.at c.part_of_pair.result (omega arith) c.part_of_pair.ensures
