use Rattle.std.proofs.Common.{arith, sym, ◌∙◌}
use Rattle.vectors.proofs.of_names.print_text.Goals as goal

-- a character ends after its place, and inside the text
pub loop-character-smaller : goal.loop-character-smaller
loop-character-smaller g c = let i = g.met.E.Encoded.laws.inside _ _ (sym c.character_at.ensures ∙ c.in-Some.is) in omega arith
