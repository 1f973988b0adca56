use mathlib.Core.Logic.{inl, inr}
use mathlib.Core.Path.{refl}
use native.Mathlib.Omega.{arith}
use Rattle.record_names.proofs.ShortLaws.{short_none, short-without, short-predefined}
use Rattle.record_names.proofs.record_at.Goals as goal

pub returns-then-size-eq0 : goal.returns-then-size-eq0
returns-then-size-eq0 c = let a = c.args in short_none a.bytes.now a.part.start a.part.end (omega arith)

pub returns-in-16 : goal.returns-in-16
returns-in-16 c = let a = c.args in short-predefined a.bytes.now a.part.start a.part.end refl c.if-size-eq2.true c.requires.1 c.from.ensures c.from-in-16.ensures (omega arith) c.in-16.is c.listed_name.ensures

pub returns-in-8 : goal.returns-in-8
returns-in-8 c =
    let a = c.args in
    let without = short-without a.bytes.now a.part.start a.part.end refl c.if-size-eq2.true c.requires.1 c.from.ensures refl c.if-bytes-start-lt128.true in
    elim c.in-8.is [
      | inl e ↦ without 1 e (omega arith) (omega arith) (λ z. omega arith)
      | inr e ↦ without 3 e (omega arith) (omega arith) (λ z. omega arith)
    ]
