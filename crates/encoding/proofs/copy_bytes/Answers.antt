use Rattle.std.proofs.Common.{arith}
use Rattle.encoding.proofs.EncodingLaws.{byte_at}
use Rattle.encoding.proofs.copy_bytes.Goals as goal

pub overflow_cast-area : goal.overflow_cast-area
overflow_cast-area c = record { fits = omega (arith, byte_at c.args.units.now c.loop-i.i c.requires.0) }
