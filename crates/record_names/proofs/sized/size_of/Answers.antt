use mathlib.Core.Bool.{false}
use mathlib.Core.List.{[]}
use native.Mathlib.Omega.{arith}
use Rattle.names.proofs.PresentLaws.{name-most}
use Rattle.record_names.proofs.SizedLaws.{size_is, unstepped}
use Rattle.record_names.proofs.sized.size_of.Goals as goal

pub put_name-size-requires : goal.put_name-size-requires
put_name-size-requires c = let a = c.args in let l = c.requires.1 in rw (c.of_bytes-context.ensures.0, c.of_bytes-context.ensures.1) omega (arith, name-most a.bytes.now [] (unstepped a.bytes.now a.name c.requires.0.0) 65536 (omega arith) (omega arith) (omega arith) false)

pub returns : goal.returns
returns c = let a = c.args in record { fits = c.if-size-gt131072.false; is = λ h. size_is a.bytes.now a.name c.requires.0.0 _ (rw (c.of_bytes-context.ensures.0, c.of_bytes-context.ensures.1) at c.put_name-size.ensures.place) }
