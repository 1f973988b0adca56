use Rattle.lookup.proofs.StringLaws.{StringsSized}
use Rattle.lookup.proofs.strings.note_strings.Given as goal

abbrev pub invariant-loop-index : goal.invariant-loop-index
invariant-loop-index l = StringsSized l.units l.ends l.initial.notes l.notes l.at
