-- The units that a conversion wrote stand inside its area.
-- Assumes nothing.
use mathlib.Core.Path.{◌≡◌, ap, subst, ◌∙◌}
use mathlib.Core.List.{List}
use Prim.Native.Nat.{ℕ, ◌≤◌}
use native.Mathlib.Omega.{arith}
use lib.ListN.{length}
use Rattle.converter.specs.Conversions.{old_to_new, new_to_old}
use Rattle.converter.specs.Statements.{AnswerKept}
use Rattle.converter.specs.told.ConversionTold.{converted_by}
use Rattle.std.specs.Prelude.{Result, Ok}
use Rattle.converter.specs.declared.ConvertFault.{ConvertFault}
use Rattle.converter.proofs.Refusals.{old_kept, new_kept}

module _ (d1 area after : List ℕ) {r : Result ℕ ConvertFault} {n : ℕ} (same : length after ≡ length area) (w : r ≡ Ok n) where
  pub old-inside : old_to_new area d1 ≡ converted_by r after → n ≤ length after
  old-inside e =
      let k : AnswerKept area d1 (converted_by (Ok n) after) = subst (AnswerKept area d1) (e ∙ ap (λ (x : Result ℕ ConvertFault). converted_by x after) w) (old_kept area d1) in
      omega (arith, k.inside)

  pub new-inside : new_to_old area d1 ≡ converted_by r after → n ≤ length after
  new-inside e =
      let k : AnswerKept area d1 (converted_by (Ok n) after) = subst (AnswerKept area d1) (e ∙ ap (λ (x : Result ℕ ConvertFault). converted_by x after) w) (new_kept area d1) in
      omega (arith, k.inside)
