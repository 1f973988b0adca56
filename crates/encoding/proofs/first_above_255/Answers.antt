use Rattle.std.proofs.Common.{ltb, sym, ap, rules, tests, arith}
use Rattle.std.proofs.lemmas.Iterator.{YieldsList-from_slice}
use Rattle.std.proofs.lemmas.Iterator.Consumers.{YieldsList-from_copied}
use Rattle.std.proofs.lemmas.Iterator.Search.{find_from_yields_List}
use Rattle.encoding.specs.told.Outcome.{above_of}
use Rattle.encoding.proofs.EncodingLaws.{above-found}
use Rattle.encoding.proofs.first_above_255.Goals as goal

pub returns-then-all_bytes : goal.returns-then-all_bytes
returns-then-all_bytes c = sym (ap above_of (c.all_bytes.ensures c.if-all_bytes.true))

pub returns : goal.returns
returns c =
    let us = c.args.units.now in
    let found = find_from_yields_List (ltb 255) _ _ c.find.result c.find.ensures.ran (YieldsList-from_copied (YieldsList-from_slice us (cc))) (λ x b q k. search (rules, tests)) in
    grind (arith, found, above-found us)
