use Prim.Native.Nat.{◌-◌}
use lib.ListN.{length, drop}
use Rattle.names.proofs.StreamLaws.{Streaming}
use Rattle.names.proofs.stream.put_characters.Given as goal

abbrev pub invariant-loop-character : goal.invariant-loop-character
invariant-loop-character g l = let e = g.E.Encoded in Streaming l.change (e.decoded (e.units l.text)) (e.decoded (drop l.i (e.units l.text))) l.at l.to l.initial.area l.area

abbrev pub decreases-loop-character : goal.decreases-loop-character
decreases-loop-character g l = length (g.E.Encoded.units l.text) - l.i
