use Rattle.std.proofs.Common.{◌≡◌, ◌<◌, subst, ltb-true, refl, rules}
use Rattle.std.proofs.Math.Option.{none}
use Rattle.std.proofs.lemmas.Fn.{fold_over, slice_gives, fronts}
use Rattle.encoding.specs.Encoding.{first_above255}
use Rattle.encoding.proofs.EncodingLaws.{bytes_next}
use Rattle.encoding.proofs.all_bytes.Goals as goal

pub returns : goal.returns
unfolding first_above255
returns c t = subst (λ us. first_above255 us ≡ none) c.iter.ensures.rest
    (fold_over fronts (λ y. y.now) _ (λ us all. all < 256 → first_above255 us ≡ none) _ (λ us a x b f' j k. let n = bytes_next us a x.now j in search rules)
    _ _ _ _ (slice_gives c.iter.result) (λ _. refl) c.fold.ensures.ran (ltb-true _ _ t))
