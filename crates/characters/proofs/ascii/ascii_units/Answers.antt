use Rattle.std.proofs.Common.{◌≡◌, ltb, subst, refl, rules}
use Rattle.std.proofs.lemmas.Fn.{fold_over, slice_gives, fronts}
use Rattle.characters.specs.told.Plain.{is_ascii}
use Rattle.characters.proofs.AsciiLaws.{ascii_next}
use Rattle.characters.proofs.ascii.ascii_units.Goals as goal

pub returns : goal.returns
unfolding is_ascii
returns c = subst (λ cs. ltb c.fold.result 128 ≡ is_ascii cs) c.iter.ensures.rest
    (fold_over fronts (λ y. y.now) _ (λ cs all. ltb all 128 ≡ is_ascii cs) _ (λ cs a x b f' j k. let n = ascii_next cs a x.now j in search rules)
    _ _ _ _ (slice_gives c.iter.result) refl c.fold.ensures.ran)
