use Rattle.wire.proofs.SkipLaws.{short-one, short-two}
use Rattle.wire.proofs.short_varint.Goals as goal

pub returns-then-first-lt128 : goal.returns-then-first-lt128
returns-then-first-lt128 c = short-one c.args.s.now c.args.at c.from-first.ensures c.if-s-at.false c.if-first-lt128.true

pub returns : goal.returns
returns c = short-two c.args.s.now c.args.at c.from-first.ensures c.if-s-next.false c.if-first-lt128.false c.from-last.ensures c.if-last-ge128.false
