use Rattle.characters.proofs.AsciiLaws.{instead-is, instead-not}
use Rattle.names.proofs.name.instead.Goals as goal

pub returns-then-c-from : goal.returns-then-c-from
returns-then-c-from c = instead-is _ _ _ c.if-c-from.true

pub returns-else-c-from : goal.returns-else-c-from
returns-else-c-from c = instead-not _ _ _ c.if-c-from.false
