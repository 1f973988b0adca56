use mathlib.Core.Path.{ap, ◌∙◌}
use mathlib.Core.List.{map}
use Prim.Native.Nat.{ℕ}
use native.Mathlib.Omega.{arith}
use Rattle.names.specs.told.Stream.{changed, fitted_of}
use Rattle.names.proofs.FittedLaws.{decoded_step, fitting_start, fitting-past, fitting-end, taken-fits, taken-some, fitting-sum, fitting-next}
use Rattle.names.proofs.stream.put_fitted.Goals as goal

pub loop-left-init : goal.loop-left-init
loop-left-init g c = let a = c.args in fitting_start (map (changed a.change) (g.E.Encoded.decoded (g.E.Encoded.units a.text))) _ _ _

pub returns-then-area-to : goal.returns-then-area-to
returns-then-area-to g c = fitting-past c.loop-left.invariant c.if-area-to.true

pub overflow_add-to : goal.overflow_add-to
overflow_add-to g c = let f = decoded_step g.met.E.Encoded.laws _ _ c.loop-left-test.true _ _ c.character_at.ensures (c.fitted_of-one.ensures ∙ ap (λ (n : ℕ). fitted_of c.args.change c.loop-left.left n c.character_at.result) c.size-end.ensures) in record { fits = fitting-sum c.loop-left.invariant f c.put_character-taken.ensures _ c.requires }

pub overflow_sub-left : goal.overflow_sub-left
overflow_sub-left g c = let f = decoded_step g.met.E.Encoded.laws _ _ c.loop-left-test.true _ _ c.character_at.ensures (c.fitted_of-one.ensures ∙ ap (λ (n : ℕ). fitted_of c.args.change c.loop-left.left n c.character_at.result) c.size-end.ensures) in taken-fits c.loop-left.invariant f c.put_character-taken.ensures

pub loop-left-smaller : goal.loop-left-smaller
loop-left-smaller g c = let f = decoded_step g.met.E.Encoded.laws _ _ c.loop-left-test.true _ _ c.character_at.ensures (c.fitted_of-one.ensures ∙ ap (λ (n : ℕ). fitted_of c.args.change c.loop-left.left n c.character_at.result) c.size-end.ensures) in omega (arith, taken-some c.loop-left.invariant f c.put_character-taken.ensures, taken-fits c.loop-left.invariant f c.put_character-taken.ensures)

pub loop-left-preserved : goal.loop-left-preserved
loop-left-preserved g c = let f = decoded_step g.met.E.Encoded.laws _ _ c.loop-left-test.true _ _ c.character_at.ensures (c.fitted_of-one.ensures ∙ ap (λ (n : ℕ). fitted_of c.args.change c.loop-left.left n c.character_at.result) c.size-end.ensures) in fitting-next c.loop-left.invariant f c.put_character-taken.ensures

pub returns : goal.returns
returns g c = fitting-end c.loop-left.invariant c.loop-left-test.false
