use Rattle.std.proofs.Common.{ap, sym, ◌∙◌}
use Rattle.schema.specs.told.SchemaTold.{lent}
use Rattle.descriptors.specs.told.PartsTold.{preceded}
use Rattle.descriptors.proofs.FunctionLaws.{after-suspended, after-returned}
use Rattle.descriptors.proofs.defaults.after_part.Goals as goal

pub returns-then-suspends : goal.returns-then-suspends
returns-then-suspends c = after-suspended (lent c.args.context.now) c.args.msg.bytes.now c.args.msg.base c.args.at c.requires.stands c.suspends.ensures c.if-suspends.true c.put_suspended.ensures

pub returns-in_err-returned : goal.returns-in_err-returned
returns-in_err-returned c =
    after-returned (lent c.args.context.now) c.args.msg.bytes.now c.args.msg.base c.args.at c.requires.stands c.suspends.ensures c.if-suspends.false c.put.ensures c.type_part.ensures
    (c.from_residual.ensures ∙ ap (preceded 1) (sym c.in_err-returned.was))

pub returns : goal.returns
returns c =
    after-returned (lent c.args.context.now) c.args.msg.bytes.now c.args.msg.base c.args.at c.requires.stands c.suspends.ensures c.if-suspends.false c.put.ensures c.type_part.ensures
    (ap (preceded 1) (sym c.in_ok-returned.was))
