use borrow.Author.Tests.{lt-ltb, le-ltb}
use Rattle.characters.specs.Characters.{width}
use Rattle.characters.proofs.width_of.Goals as goal

pub returns-then-code-lt128 : goal.returns-then-code-lt128
unfolding width
returns-then-code-lt128 c = simp (lt-ltb _ _ c.if-code-lt128.true)

pub returns-then-code-lt2048 : goal.returns-then-code-lt2048
unfolding width
returns-then-code-lt2048 c = simp (le-ltb _ _ c.if-code-lt128.false, lt-ltb _ _ c.if-code-lt2048.true)

pub returns-then-code-lt65536 : goal.returns-then-code-lt65536
unfolding width
returns-then-code-lt65536 c = simp (le-ltb _ _ c.if-code-lt128.false, le-ltb _ _ c.if-code-lt2048.false, lt-ltb _ _ c.if-code-lt65536.true)

pub returns : goal.returns
unfolding width
returns c = simp (le-ltb _ _ c.if-code-lt128.false, le-ltb _ _ c.if-code-lt2048.false, le-ltb _ _ c.if-code-lt65536.false)
