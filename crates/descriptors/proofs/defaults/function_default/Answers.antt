use Prim.Native.Nat.{◌+◌}
use Rattle.std.proofs.Common.{ap, sym, ◌∙◌}
use Rattle.descriptors.specs.told.PartsTold.{preceded}
use Rattle.descriptors.proofs.FunctionLaws.{function-absent, function-done}
use Rattle.descriptors.proofs.defaults.function_default.Goals as goal

pub returns-in_err-before : goal.returns-in_err-before
returns-in_err-before c = rw c.from_residual.ensures (function-absent c.args.msg.bytes.now c.args.at c.args.area.now c.put.ensures c.before_part.ensures c.in_err-before.was)

pub returns-in_err-after : goal.returns-in_err-after
returns-in_err-after c =
    function-done c.args.msg.bytes.now c.args.at c.args.area.now c.put.ensures c.before_part.ensures c.in_ok-before.was c.after_part.ensures
    (c.from_residual-in_err-after.ensures ∙ ap (preceded (1 + c.in_ok-before.before)) (sym c.in_err-after.was))

pub returns : goal.returns
returns c =
    function-done c.args.msg.bytes.now c.args.at c.args.area.now c.put.ensures c.before_part.ensures c.in_ok-before.was c.after_part.ensures
    (ap (preceded (1 + c.in_ok-before.before)) (sym c.in_ok-after.was))
