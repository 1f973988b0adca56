use mathlib.Core.Path.{◌∙◌, ap}
use mir.Facts.{to_z-of_z}
use Rattle.std.proofs.lemmas.Result.{err_from_is_err_and}
use Rattle.inputs.specs.Inputs.{kind_of}
use Rattle.passes.proofs.TaskLaws.{reply_refused}
use Rattle.metadata.proofs.ReadLaws.{reading-fault, kept-is, task-kind}
use Rattle.metadata.proofs.reply_to.Goals as goal

pub returns-in_err-fault_of-clause-written : goal.returns-in_err-fault_of-clause-written
returns-in_err-fault_of-clause-written c =
    let p = err_from_is_err_and c.from_residual.result c.from_residual.ensures.1 in
    rw (p.1, p.2) (reply_refused c.args.task (kind_of c.args.k) _ _ c.args.areas.now.sheet.now c.args.areas.now.text.now (reading-fault c.args.k c.args.version c.args.units.now.d1.now c.args.units.now.d2.now c.args.units.now.ends.now c.fault_of.result (c.fault_of.ensures c.args.k) c.in_err-fault_of.was))

pub of_kind-requires : goal.of_kind-requires
of_kind-requires c = kept-is c.args.k c.args.version c.args.units.now.d1.now c.args.units.now.d2.now c.args.units.now.ends.now c.fault_of.result (c.fault_of.ensures c.args.k) c.in_ok-fault_of.was

pub returns-clause-written : goal.returns-clause-written
returns-clause-written c = task-kind c.args.k c.args.version c.args.units.now.d1.now c.args.units.now.d2.now c.args.units.now.ends.now c.fault_of.result (c.fault_of.ensures c.args.k) c.in_ok-fault_of.was (c.kind_of.ensures ∙ ap kind_of (to_z-of_z c.ranges.k)) c.args.task c.of_kind.result c.args.areas.now.sheet.now c.of_kind.new.areas.sheet.now c.args.areas.now.text.now c.of_kind.new.areas.text.now c.of_kind.ensures.written
