use mathlib.Core.Path.{◌≡◌}
use Prim.Native.Nat.{◌-◌, ◌%◌}
use lib.ListN.{length, take, drop}
use Rattle.std.proofs.Common.{rules, tests}
use Rattle.std.proofs.lemmas.Iterator.{YieldsList-from_slice, first_from_find}
use Rattle.std.proofs.lemmas.Iterator.Consumers.{YieldsList-from_copied}
use Rattle.lookup.proofs.StringLaws.{size-found}
use Rattle.lookup.proofs.strings.noted_size.Goals as goal

pub returns : goal.returns
returns c =
    let notes = c.args.notes.now in
    let sizes = take (length notes - c.sizes_from.result) (drop c.sizes_from.result notes) in
    let found = first_from_find _ _ c.find.result (λ w. w % 65536 ≡ c.args.index) (λ w. Unit {0}) c.find.ensures.ran (YieldsList-from_copied (YieldsList-from_slice sizes (rw c.copied.ensures.source c.iter.ensures.rest))) (λ x q k. search (rules, tests)) (λ x q k. search (rules, tests)) in
    λ units ends s. size-found units ends notes c.args.index c.in-Some.word c.sizes_from.ensures found c.in-Some.is s
