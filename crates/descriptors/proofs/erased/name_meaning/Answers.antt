use mathlib.Core.Path.{refl}
use mathlib.Core.Bool.{true}
use Rattle.std.specs.Prelude.{Some}
use native.Mathlib.Omega.{arith}
use Rattle.names.specs.told.Stream.{name_bytes}
use Rattle.descriptors.proofs.ErasedLaws.{name-short, means-long, means-short}
use Rattle.descriptors.proofs.erased.name_meaning.Goals as goal

pub put_name-size-requires : goal.put_name-size-requires
put_name-size-requires c = let h = name-short c.args.context.now.payload.now c.args.context.now.d2.now c.args.name c.requires.0 c.requires.1 in omega arith

pub returns-then-size-gt36-clause-means : goal.returns-then-size-gt36-clause-means
returns-then-size-gt36-clause-means c = means-long (name_bytes c.args.context.now.payload.now c.args.context.now.d2.now (Some c.args.name) true) c.put_name-size.ensures c.if-size-gt36.true

pub returns-clause-means : goal.returns-clause-means
returns-clause-means c = means-short (name_bytes c.args.context.now.payload.now c.args.context.now.d2.now (Some c.args.name) true) c.put_name-size.ensures refl c.if-size-gt36.false c.meaning_of.result c.meaning_of.ensures.means
