use Rattle.std.proofs.Common.{◌-◌, length}
use Rattle.vectors.proofs.of_names.print_text.Given as goal

abbrev pub decreases-loop-character : goal.decreases-loop-character
decreases-loop-character g l = length (g.E.Encoded.units l.text) - l.at
