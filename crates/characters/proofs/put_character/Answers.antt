use Rattle.characters.proofs.WriteLaws.{put_one, put_two, put_three, put_four}
use Rattle.characters.proofs.put_character.Goals as goal

pub returns-then-code-lt128 : goal.returns-then-code-lt128
returns-then-code-lt128 c = put_one _ _ c.args.area.now c.if-code-lt128.true c.put.ensures

pub returns-then-code-lt2048 : goal.returns-then-code-lt2048
returns-then-code-lt2048 c = put_two _ _ c.args.area.now c.if-code-lt128.false c.if-code-lt2048.true c.put_bytes.ensures

pub returns-then-code-lt65536 : goal.returns-then-code-lt65536
returns-then-code-lt65536 c = put_three _ _ c.args.area.now c.if-code-lt2048.false c.if-code-lt65536.true c.put_bytes-then-code-lt65536.ensures

pub returns : goal.returns
returns c = put_four _ _ c.args.area.now c.if-code-lt65536.false c.put_bytes-2.ensures
