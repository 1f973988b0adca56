use mathlib.Core.Path.{◌∙◌, sym}
use native.Mathlib.Omega.{arith}
use Rattle.characters.proofs.CharacterLaws.{utf8-inside}
use Rattle.record_names.proofs.EndsLaws.{begins-start, begins-end, begins-next, last-is}
use Rattle.record_names.proofs.ends.last_of.Goals as goal

pub loop-character-init : goal.loop-character-init
loop-character-init c = begins-start c.args.s.now

pub returns-then-s-character : goal.returns-then-s-character
returns-then-s-character c = last-is c.args.s.now c.loop-character.at c.loop-character.invariant (sym c.utf8_at.ensures ∙ c.in-Some.is) c.if-s-character.true

pub loop-character-smaller : goal.loop-character-smaller
loop-character-smaller c = let h = utf8-inside c.args.s.now c.loop-character.at (sym c.utf8_at.ensures ∙ c.in-Some.is) in omega arith

pub loop-character-preserved : goal.loop-character-preserved
loop-character-preserved c = begins-next c.args.s.now c.loop-character.at c.loop-character.invariant (sym c.utf8_at.ensures ∙ c.in-Some.is) c.if-s-character.false

pub returns : goal.returns
returns c = begins-end c.args.s.now c.loop-character.at c.loop-character.invariant (sym c.utf8_at.ensures ∙ c.in_default.is)
