use mathlib.Core.Path.{refl, sym, ap}
use native.Mathlib.Omega.{arith}
use lib.ListN.{length}
use Rattle.std.proofs.Common.{rules}
use Rattle.wire.specs.declared.Fields.{Fields}
use Rattle.wire.proofs.SkipLaws.{skip_none, skip-short, skip-then, step-short}
use Rattle.wire.proofs.WalkLaws.{field-inside}
use Rattle.wire.proofs.FieldsIterator.next.Goals as goal

pub loop-read-init : goal.loop-read-init
loop-read-init g c =
    let i = c.args.self.now in
    record { still = refl; skips = skip_none i.s.bytes.now i.numbers i.at }

pub loop-read-preserved : goal.loop-read-preserved
loop-read-preserved g c =
    let i = c.args.self.now in
    let x = c.in-Some.read in
    record {
      still = c.loop-read.invariant.still;
      skips =
          skip-then i.s.bytes.now i.numbers c.loop-read.invariant.skips
          (skip-short i.s.bytes.now i.numbers c.loop-read.at c.in-Some.ensures λ j h e. c.is_among.ensures c.if-is_among.false j (omega arith) (sym e));
    }

pub returns-then-is_among-clause-steps : goal.returns-then-is_among-clause-steps
returns-then-is_among-clause-steps g c =
    let i = c.args.self.now in
    let e = c.loop-read.invariant.still in (
      step-short i.s.base i.s.bytes.now i.numbers c.in-Some.read c.loop-read.invariant.skips c.in-Some.ensures,
      ap (λ (j : Fields g.row.N). j.s) e,
      ap (λ (j : Fields g.row.N). j.numbers) e,
    )

pub returns-in-Ok-clause-goes : goal.returns-in-Ok-clause-goes
returns-in-Ok-clause-goes g c =
    let i = c.args.self.now in
    let h = field-inside i.s.base i.s.bytes.now c.loop-read.at c.in-Ok.read (c.in-Ok.ensures.inside (omega arith)) (omega arith) in
    let f = c.loop-read.invariant.skips.later in
    let e = ap (λ (j : Fields g.row.N). length j.s.bytes.now) c.loop-read.invariant.still in
    search rules
