use native.Mathlib.Omega.{arith}
use Rattle.lookup.proofs.StringLaws.{string-noted, part-fits}
use Rattle.lookup.proofs.strings.note_string.Goals as goal

pub utf8_size-size-requires : goal.utf8_size-size-requires
utf8_size-size-requires c = omega (arith, part-fits c.args.units.now c.in-Some.part.start c.in-Some.part.end c.requires.0)

pub overflow_mul-notes : goal.overflow_mul-notes
overflow_mul-notes c = record { fits = omega (arith, part-fits c.args.units.now c.in-Some.part.start c.in-Some.part.end c.requires.0, c.utf8_size-size.ensures) }

pub overflow_add-notes : goal.overflow_add-notes
overflow_add-notes c = record { fits = omega (arith, part-fits c.args.units.now c.in-Some.part.start c.in-Some.part.end c.requires.0, c.utf8_size-size.ensures) }

pub returns : goal.returns
returns c = rw c.from.ensures (string-noted c.args.units.now c.args.ends.now c.args.notes.now c.args.at c.requires.1 c.args.index c.d2_extent.result c.d2_extent.ensures c.in-Some.is (omega arith) c.if-index-gt65535.false c.utf8_size-size.ensures)
