use mathlib.Core.Bool.{true}
use Rattle.std.specs.Prelude.{Some}
use native.Mathlib.Omega.{arith}
use Rattle.names.specs.told.Stream.{name_bytes}
use Rattle.descriptors.proofs.ErasedLaws.{name-short, class-put}
use Rattle.descriptors.proofs.erased.put_class.Goals as goal

pub put_name-next-requires : goal.put_name-next-requires
put_name-next-requires c = let h = name-short c.args.context.now.payload.now c.args.context.now.d2.now c.args.name c.requires.0 c.requires.1 in omega (arith, c.requires.2)

pub overflow_add-result : goal.overflow_add-result
overflow_add-result c = let h = name-short c.args.context.now.payload.now c.args.context.now.d2.now c.args.name c.requires.0 c.requires.1 in omega (arith, c.put_name-next.ensures.place, c.requires.2)

pub returns : goal.returns
returns c = class-put (name_bytes c.args.context.now.payload.now c.args.context.now.d2.now (Some c.args.name) true) c.args.at c.put.ensures c.put_name-next.ensures c.put-2.ensures
