use mathlib.Core.Path.{◌∙◌, sym, ap}
use native.Mathlib.Omega.{arith}
use Rattle.characters.specs.told.CharactersTold.{place_told}
use Rattle.characters.proofs.CharacterLaws.{utf8-inside}
use Rattle.characters.proofs.SplitLaws.{from_start, from-here, from_end, from-inside, from_next}
use Rattle.characters.proofs.find_place.Goals as goal

pub loop-left-init : goal.loop-left-init
loop-left-init c = from_start c.args.s.now _

pub returns-in_err-character : goal.returns-in_err-character
returns-in_err-character c = ap place_told c.from_residual.ensures ∙ sym (from_end c.args.s.now _ _ c.loop-left-test.true (sym c.utf8_at.ensures ∙ c.in_err-character.was)) ∙ c.loop-left.invariant

pub returns-then-left-size : goal.returns-then-left-size
returns-then-left-size c = sym (from-inside c.args.s.now _ _ (sym c.utf8_at.ensures ∙ c.in_ok-character.was) c.width_of-size.ensures c.loop-left-test.true c.if-left-size.true) ∙ c.loop-left.invariant

pub loop-left-smaller : goal.loop-left-smaller
loop-left-smaller c = let i = utf8-inside c.args.s.now _ (sym c.utf8_at.ensures ∙ c.in_ok-character.was) in omega arith

pub loop-left-preserved : goal.loop-left-preserved
loop-left-preserved c = sym (from_next c.args.s.now _ _ (sym c.utf8_at.ensures ∙ c.in_ok-character.was) c.width_of-size.ensures c.if-left-size.false) ∙ c.loop-left.invariant

pub returns : goal.returns
returns c = sym (from-here c.args.s.now _ _ c.loop-left-test.false) ∙ c.loop-left.invariant
