-- What is promised of an accepted answer holds of what the code answers. The contracts of the entries give the equation: of `read` the
-- answer is `told_by` of its own, of `sheet_read` it is `told_in`. That units of d2 are of 16 bits is what `&[u16]` says.
-- Assumes nothing.
use mathlib.Core.Path.{◌≡◌, ap, subst, ◌∙◌}
use mathlib.Core.List.{List}
use Prim.Native.Nat.{ℕ}
use Rattle.characters.specs.WellFormed.{Units}
use Rattle.inputs.specs.Inputs.{Input}
use Rattle.inputs.specs.Outcomes.{Answer}
use Rattle.metadata.specs.Read.{read}
use Rattle.promises.specs.Promises.{Promised}
use Rattle.promises.proofs.Promised.{promised}

pub answer_promised : (sheet text : List ℕ) (i : Input) {a : Answer} → read sheet text i ≡ a → Units i.d2 → a.number ≡ 0 → Promised i a
answer_promised sheet text i e u z = subst (Promised i) e (promised sheet text i u (ap (λ (a : Answer). a.number) e ∙ z))
