use Rattle.joined_types.proofs.MovedLaws.{no-type_nothing, no-type_index}
use Rattle.joined_types.proofs.has_no_type.Goals as goal

pub returns-in-ByIndex : goal.returns-in-ByIndex
returns-in-ByIndex c = no-type_index c.args.types c.args.argument.base c.args.argument.bytes.now c.argument_head.ensures c.wide.result c.in-ByIndex.is c.wide.ensures

pub returns-in-Nothing : goal.returns-in-Nothing
returns-in-Nothing c = no-type_nothing c.args.types c.args.argument.base c.args.argument.bytes.now c.argument_head.ensures c.in-Nothing.is
