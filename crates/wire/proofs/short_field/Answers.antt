use Rattle.wire.proofs.SkipLaws.{short-varint, short-body}
use Rattle.wire.proofs.short_field.Goals as goal

pub returns-then-kind-eq0 : goal.returns-then-kind-eq0
returns-then-kind-eq0 c = short-varint c.args.s.now c.args.at c.in_ok-tag.ensures c.in_ok-first.ensures c.if-tag-lt8.false c.if-kind-eq0.true

pub returns : goal.returns
returns c = short-body c.args.s.now c.args.at c.in_ok-tag.ensures c.in_ok-first.ensures c.if-tag-lt8.false c.if-kind-ne2.false c.if-left-first.false
