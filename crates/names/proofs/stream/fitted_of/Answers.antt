use Rattle.names.proofs.FittedLaws.{fitted-of-end, fitted-of-fits, fitted-of-wide}
use Rattle.names.proofs.stream.fitted_of.Goals as goal

pub returns-in_default : goal.returns-in_default
returns-in_default c = let a = c.args in fitted-of-end a.change a.left a.end c.in_default.is

pub returns-then-left-width_of : goal.returns-then-left-width_of
returns-then-left-width_of c = let a = c.args in fitted-of-wide a.change a.left a.end c.in-Some.is c.character_of-code.ensures c.width_of.ensures c.if-left-width_of.true

pub returns : goal.returns
returns c = let a = c.args in fitted-of-fits a.change a.left a.end c.in-Some.is c.character_of-code.ensures c.width_of.ensures c.if-left-width_of.false
