-- What is told of a reader that writes to an Output: its answer, with the state that it leaves.
-- Assumes nothing.
use Rattle.std.specs.Prelude.{◌≡◌, Bool, true, false, List, ℕ}
use Rattle.std.specs.declared.option.Option.TheVariants.{Some, None}
use Rattle.std.specs.declared.result.Result.{Result}
use Rattle.std.specs.declared.result.Result.TheVariants.{Ok, Err}
use Rattle.sheet.specs.declared.State.{State}
use Rattle.sheet.specs.declared.Output.{Output}
use Rattle.schema.specs.declared.Stop.{Stop}
use Rattle.schema.specs.told.SchemaTold.{Walked, Picked}

-- what was read is written, up to the state that is left
abbrev pub walked : Result Unit Stop → Output → Walked
walked (Ok u) o = Ok o.state
walked (Err stop) o = Err stop

-- the same of what may not be there; where it isn't, the state stays
abbrev pub picked : Result Bool Stop → Output → Picked
picked (Ok true) o = Ok (Some o.state)
picked (Ok false) o = Ok None
picked (Err stop) o = Err stop

abbrev pub Stays : Result Bool Stop → Output → Output → Type 0
Stays (Ok true) o o' = Unit {0}
Stays (Ok false) o o' = o'.state ≡ o.state
Stays (Err stop) o o' = Unit {0}

-- What is told of a state, an answer and what stands in both areas before and after, of an Output before and after.
abbrev pub Writes : {A : Type 0} → (State → A → (S S' T T' : List ℕ) → Type 0) → Output → A → Output → Type 0
Writes told o r o' = told o.state r o.sheet.now o'.sheet.now o.text.now o'.text.now
