use Rattle.names.specs.told.Name.{predefined_list}
use Rattle.record_names.proofs.PartLaws.{moved_is}
use Rattle.record_names.proofs.UnwrapLaws.{class-stays, class-cut}
use Rattle.record_names.proofs.class_name.qualified_bytes.Goals as goal

pub returns-in_default : goal.returns-in_default
unfolding predefined_list
returns-in_default c = class-stays c.args.payload.now c.args.name c.requires c.base_text-s.result.now c.base_text-s.ensures c.in_default.ensures c.qualified_part.ensures

pub returns : goal.returns
unfolding predefined_list
returns c = class-cut c.args.payload.now c.args.name c.requires c.base_text-s.result.now c.base_text-s.ensures c.in-Some.ensures (rw (moved_is c.args.name.part.start _ _ c.moved.ensures) at c.qualified_part-2.ensures)
