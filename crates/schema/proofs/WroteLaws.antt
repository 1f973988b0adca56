-- What is told of a reader that writes to an Output, once its answer is known.
-- Assumes nothing.
use mathlib.Core.Path.{◌≡◌, ap}
use mathlib.Core.Bool.{Bool, true, false}
use Rattle.std.specs.declared.option.Option.TheVariants.{Some, None}
use Rattle.std.specs.declared.result.Result.{Result}
use Rattle.std.specs.declared.result.Result.TheVariants.{Ok, Err}
use Rattle.sheet.specs.declared.Output.{Output}
use Rattle.schema.specs.declared.Stop.{Stop}
use Rattle.schema.specs.told.WroteTold.{walked, picked}

pub walked_ok : {r : Result Unit Stop} (o : Output) → r ≡ Ok tt → walked r o ≡ Ok o.state
walked_ok o e = ap (λ (r : Result Unit Stop). walked r o) e

pub walked_err : {r : Result Unit Stop} (o : Output) {stop : Stop} → r ≡ Err stop → walked r o ≡ Err stop
walked_err o e = ap (λ (r : Result Unit Stop). walked r o) e

pub picked_true : {r : Result Bool Stop} (o : Output) → r ≡ Ok true → picked r o ≡ Ok (Some o.state)
picked_true o e = ap (λ (r : Result Bool Stop). picked r o) e

pub picked_false : {r : Result Bool Stop} (o : Output) → r ≡ Ok false → picked r o ≡ Ok None
picked_false o e = ap (λ (r : Result Bool Stop). picked r o) e

pub picked_err : {r : Result Bool Stop} (o : Output) {stop : Stop} → r ≡ Err stop → picked r o ≡ Err stop
picked_err o e = ap (λ (r : Result Bool Stop). picked r o) e
