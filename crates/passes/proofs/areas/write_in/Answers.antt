use mathlib.Core.Path.{sym, ap, ◌∙◌}
use Rattle.inputs.specs.told.KindTold.{kind_number}
use Rattle.schema.specs.told.SchemaTold.{lent}
use Rattle.std.specs.Prelude.{Ok}
use Rattle.inputs.specs.told.OutcomesTold.{told}
use Rattle.inputs.specs.declared.outcome.Sizes.{Sizes}
use Rattle.passes.proofs.AreaLaws.{types-left, text-past-limit, text-past-area, sheet-over, all-written}
use Rattle.passes.proofs.areas.write_in.Goals as goal
use Rattle.passes.proofs.areas.write_in.Goals.{then-length-gt-TEXT_LIMIT-via-then-length-gt-TEXT_LIMIT, then-length-gt-TEXT_LIMIT-via-else-length-gt-TEXT_LIMIT+then-areas-length}

pub returns-then-length-gt-TEXT_LIMIT-clause-written : goal.returns-then-length-gt-TEXT_LIMIT-clause-written
returns-then-length-gt-TEXT_LIMIT-clause-written c = elim c.then-length-gt-TEXT_LIMIT.branch [
  | then-length-gt-TEXT_LIMIT-via-then-length-gt-TEXT_LIMIT w ↦ text-past-limit (kind_number c.args.kind) (lent c.args.context.now) c.args.measured.at c.args.measured.sections c.args.measured.sheet.now c.args.measured.text.now c.requires.1 c.args.areas.now.sheet.now c.args.areas.now.text.now w.if-length-gt-TEXT_LIMIT.true
  | then-length-gt-TEXT_LIMIT-via-else-length-gt-TEXT_LIMIT+then-areas-length w ↦ text-past-area (kind_number c.args.kind) (lent c.args.context.now) c.args.measured.at c.args.measured.sections c.args.measured.sheet.now c.args.measured.text.now c.requires.1 c.args.areas.now.sheet.now c.args.areas.now.text.now w.if-areas-length.true
]

pub returns-then-areas-size-clause-written : goal.returns-then-areas-size-clause-written
returns-then-areas-size-clause-written c = sheet-over (kind_number c.args.kind) (lent c.args.context.now) c.args.measured.at c.args.measured.sections c.args.measured.sheet.now c.args.measured.text.now c.requires.1 c.args.areas.now.sheet.now c.args.areas.now.text.now c.if-length-gt-TEXT_LIMIT.false c.if-areas-length.false c.if-areas-size.true

pub sizes_at-requires : goal.sizes_at-requires
sizes_at-requires c = types-left (kind_number c.args.kind) (lent c.args.context.now) c.args.measured.at c.args.measured.sections c.args.measured.sheet.now c.args.measured.text.now c.requires.1

pub returns-clause-written : goal.returns-clause-written
returns-clause-written c =
    all-written (kind_number c.args.kind) (lent c.args.context.now) c.args.measured.at c.args.measured.sections c.args.measured.sheet.now c.args.measured.text.now c.requires.1 c.args.areas.now.sheet.now c.args.areas.now.text.now c.if-length-gt-TEXT_LIMIT.false c.if-areas-length.false c.if-areas-size.false c.write_out.ensures.written
    ∙ ap (λ (s : Sizes). told (Ok s) c.write_out.new.areas.sheet.now c.write_out.new.areas.text.now) (sym c.sizes_at.ensures)
