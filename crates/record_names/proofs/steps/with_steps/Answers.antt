use mathlib.Core.Bool.{false, ◌&&◌}
use mathlib.Core.Path.{◌≡◌, refl, sym, ◌∙◌}
use native.Mathlib.Omega.{arith}
use Rattle.characters.specs.Characters.{is_scalar}
use Rattle.record_names.proofs.PartLaws.{of_bytes, scalar_least, not-both, steps-none, steps-both, steps-absent}
use Rattle.record_names.proofs.steps.with_steps.Goals as goal
use Rattle.record_names.proofs.steps.with_steps.Goals.{else-is_scalar-via-then-is_scalar+else-is_scalar-2, else-is_scalar-via-else-is_scalar}

pub returns-in_default : goal.returns-in_default
returns-in_default c = rw c.plain.ensures record {
  bytes = (of_bytes c.args.base.source c.args.base.no_units, refl, omega arith, omega arith, refl);
  is = λ payload d2. steps-none payload d2 c.args.base c.args.operation c.args.replaced (not-both c.args.replaced c.in_default.not-Both);
}

pub returns-then-is_scalar-2 : goal.returns-then-is_scalar-2
returns-then-is_scalar-2 c =
    let a = sym c.is_scalar.ensures ∙ c.if-is_scalar.true in
    let b = sym c.is_scalar-then-is_scalar.ensures ∙ c.if-is_scalar-2.true in
    rw c.plain.ensures record {
      bytes = (of_bytes c.args.base.source c.args.base.no_units, refl, scalar_least _ a, scalar_least _ b, refl);
      is = λ payload d2. steps-both payload d2 c.args.base c.args.operation c.in-Both.is a b;
    }

pub returns : goal.returns
returns c =
    let f : is_scalar c.in-Both.first && is_scalar c.in-Both.second ≡ false =
    elim c.else-is_scalar.branch [
      | else-is_scalar-via-then-is_scalar+else-is_scalar-2 w ↦ rw (← c.is_scalar.ensures, w.if-is_scalar.true, ← w.is_scalar-then-is_scalar.ensures, w.if-is_scalar-2.false)
      | else-is_scalar-via-else-is_scalar w ↦ rw (← c.is_scalar.ensures, w.if-is_scalar.false)
    ] in
    record {
      bytes = tt;
      is = λ payload d2. steps-absent c.args.operation c.in-Both.is f _;
    }
