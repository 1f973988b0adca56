use mathlib.Core.Path.{◌∙◌, sym}
use native.Mathlib.Omega.{arith}
use Rattle.names.proofs.StreamLaws.{streaming_start, streaming-end, streaming-fits, streaming-next}
use Rattle.names.proofs.stream.put_characters.Goals as goal

pub loop-character-init : goal.loop-character-init
loop-character-init g c = let e = g.E.Encoded in streaming_start _ (e.decoded (e.units c.args.text)) _ _

pub returns : goal.returns
returns g c = streaming-end c.loop-character.invariant (g.met.E.Encoded.laws.ended _ _ (sym c.character_at.ensures ∙ c.in_default.is))

pub overflow_add-to : goal.overflow_add-to
overflow_add-to g c = record { fits = streaming-fits c.loop-character.invariant _ (g.met.E.Encoded.laws.goes_on _ _ (sym c.character_at.ensures ∙ c.in-Some.is)) c.character_of-code.ensures c.put_character-to.ensures _ c.requires }

pub loop-character-smaller : goal.loop-character-smaller
loop-character-smaller g c = let i = g.met.E.Encoded.laws.inside _ _ (sym c.character_at.ensures ∙ c.in-Some.is) in omega arith

pub loop-character-preserved : goal.loop-character-preserved
loop-character-preserved g c = streaming-next c.loop-character.invariant _ (g.met.E.Encoded.laws.goes_on _ _ (sym c.character_at.ensures ∙ c.in-Some.is)) c.character_of-code.ensures c.put_character-to.ensures
