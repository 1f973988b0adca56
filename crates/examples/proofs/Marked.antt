-- The marked examples of document 01: one table, one statement.
-- Assumes nothing.
use lib.Dec.{T}
use Rattle.line.specs.Input.{d1_count, d2_count, ends_count, whole_input}
use Rattle.line.specs.Line.{decimal, hex_of, part_of, line_of}
use Rattle.answer_lines.specs.Program.{printed, zeros}
use Rattle.examples.specs.Marked.{marked, all_pass}
use Rattle.examples.proofs.Computed.{computed}

pub marked-examples : T (all_pass marked)
unfolding computed printed zeros whole_input d1_count d2_count ends_count line_of decimal part_of hex_of
marked-examples = tt
