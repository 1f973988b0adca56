-- A step in UTF-8 by the rows of the table, and a text cut in two.
-- Assumes nothing.
use mathlib.Core.Path.{◌≡◌, refl, ap, sym, subst}
use mathlib.Core.List.{List, [], ◌∷◌, ◌++◌}
use mathlib.Core.Option.{Option, none, some}
use Prim.Native.Nat.{ℕ, ◌-◌}
use lib.Dec.{T, eqb, ltb}
use Rattle.foundation.specs.Choices.{if_some, All, IfSome}
use Rattle.foundation.specs.Texts.{Text}
use Rattle.foundation.proofs.ChoiceLaws.{if_ind}
use Rattle.characters.specs.Characters.{width, in_range, Lead, leads, lead_of, Step, step, step_by, replacement}
use Rattle.characters.specs.Splits.{Halves, split_at}
use Rattle.foundation.proofs.EveryLaws.{some_map}

-- A step in UTF-8, by what holds of a lone U+FFFD and of what each row of the table gives.
abbrev pub alone : Step
alone = record { character = replacement; after = 0 }

pub lead_found : (R : Lead → Type 0) (b : ℕ) (ls : List Lead) → All R ls → IfSome (λ l. R l × T (in_range l.first b)) (lead_of b ls)
unfolding lead_of
lead_found R b [] h = tt
lead_found R b (l ∷ ls) h =
    if_ind (IfSome λ x. R x × T (in_range x.first b)) (in_range l.first b) (λ t. (h.0, subst T (sym t) tt)) λ t.
    lead_found R b ls h.1

pub step_ind : (R : Lead → Type 0) (P : Step → Type 0) (b : ℕ) (bs : List ℕ) → All R leads → P alone
    → ((l : Lead) → R l → T (in_range l.first b) → P (step_by l b bs)) → P (step b bs)
unfolding step
step_ind R P b bs rows bad good = go (lead_of b leads) (lead_found R b leads rows)
  where
    go : (o : Option Lead) → IfSome (λ l. R l × T (in_range l.first b)) o → P (if_some o alone λ l. step_by l b bs)
    go none h = bad
    go (some l) h = good l h.0 h.1

abbrev pub Joins : Text → Halves → Type 0
Joins t h = h.before ++ h.after ≡ t

pub split_joins : (n : ℕ) (t : Text) → IfSome (Joins t) (split_at n t)
unfolding split_at
split_joins n [] = if_ind (IfSome (Joins [])) (eqb n 0) (λ e. refl) λ e. tt
split_joins n (c ∷ t) =
    if_ind (IfSome (Joins (c ∷ t))) (eqb n 0) (λ e. refl) λ e.
    if_ind (IfSome (Joins (c ∷ t))) (ltb n (width c)) (λ l. tt) λ l.
    some_map (Joins t) (Joins (c ∷ t)) _ (split_at (n - width c) t) (split_joins (n - width c) t) λ h. ap (λ (u : Text). c ∷ u)
