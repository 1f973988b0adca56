-- The segments of a name.
-- Assumes nothing.
use mathlib.Core.Path.{◌≡◌, refl, ap, sym, ◌∙◌, subst}
use mathlib.Core.Logic.{◌≢◌}
use mathlib.Core.List.{List, [], ◌∷◌, ◌++◌, map}
use Prim.Native.Nat.{ℕ}
use native.Mathlib.Omega.{arith}
use lib.Dec.{eqb}
use borrow.Author.Tests.{eqb-true, eqb-false}
use Rattle.foundation.specs.Choices.{concat, All}
use Rattle.foundation.proofs.ChoiceLaws.{if_ind, all_weaken}
use Rattle.grammar.specs.Grammar.{before_first, segments, Segment, ClassName}

-- The segments, with slashes put between them, are the name, and none of them holds a slash: they are what stands between its slashes.
abbrev pub slashed : List (List ℕ) → List ℕ
slashed [] = []
slashed (s ∷ ss) = s ++ concat (map (λ t. 0x2f ∷ t) ss)

slash_first : (n : List ℕ) → slashed ([] ∷ segments n) ≡ 0x2f ∷ slashed (segments n)
unfolding segments
slash_first [] = refl
slash_first (c ∷ cs) =
    if_ind (λ (ss : List (List ℕ)). slashed ([] ∷ ss) ≡ 0x2f ∷ slashed ss) (eqb c 0x2f) (λ t. refl) (λ t. before (segments cs))
  where
    before : (ss : List (List ℕ)) → slashed ([] ∷ before_first c ss) ≡ 0x2f ∷ slashed (before_first c ss)
    before [] = refl
    before (s ∷ ss) = refl

pub slashed-segments : (n : List ℕ) → slashed (segments n) ≡ n
unfolding segments
slashed-segments [] = refl
slashed-segments (c ∷ cs) =
    if_ind (λ (ss : List (List ℕ)). slashed ss ≡ c ∷ cs) (eqb c 0x2f)
    (λ t. slash_first cs ∙ λ i. sym (eqb-true c 0x2f t) i ∷ slashed-segments cs i)
    (λ t. before (segments cs) ∙ ap (λ (l : List ℕ). c ∷ l) (slashed-segments cs))
  where
    before : (ss : List (List ℕ)) → slashed (before_first c ss) ≡ c ∷ slashed ss
    before [] = refl
    before (s ∷ ss) = refl

pub no_slash : (n : List ℕ) → All (All λ c. c ≢ 0x2f) (segments n)
unfolding segments
no_slash [] = (tt, tt)
no_slash (c ∷ cs) =
    if_ind (All (All λ c. c ≢ 0x2f)) (eqb c 0x2f) (λ t. (tt, no_slash cs)) (λ t. before (eqb-false c 0x2f t) (segments cs) (no_slash cs))
  where
    before : c ≢ 0x2f → (ss : List (List ℕ)) → All (All λ c. c ≢ 0x2f) ss → All (All λ c. c ≢ 0x2f) (before_first c ss)
    before n [] h = ((n, tt), tt)
    before n (s ∷ ss) h = ((n, h.0), h.1)

-- What holds of a slash and of every byte of every segment holds of every byte of the name.
module _ (P : ℕ → Type 0) (slash : P 0x2f) where
  all-before-first : (c : ℕ) (cs : List ℕ) (ss : List (List ℕ)) → (All (All P) ss → All P cs)
      → All (All P) (before_first c ss)
      → All P (c ∷ cs)
  all-before-first c cs [] f h = (h.0.0, f tt)
  all-before-first c cs (s ∷ ss) f h = (h.0.0, f (h.0.1, h.1))

  pub all-bytes : (n : List ℕ) → All (All P) (segments n) → All P n
  unfolding segments
  all-bytes [] h = tt
  all-bytes (c ∷ cs) h =
      if_ind (λ (ss : List (List ℕ)). All (All P) ss → All P (c ∷ cs)) (eqb c 0x2f)
      (λ t h. (subst P (sym (eqb-true c 0x2f t)) slash, all-bytes cs h.1))
      (λ t h. all-before-first c cs (segments cs) (all-bytes cs) h)
      h

-- So a name in the JVM's form holds no ;.
pub no_semicolon_lem : (n : List ℕ) → ClassName n → All (λ c. c ≢ 0x3b) n
unfolding ClassName
no_semicolon_lem n h =
    all-bytes (λ c. c ≢ 0x3b) (λ e. omega arith) n (all_weaken Segment (All λ c. c ≢ 0x3b) (λ s k. k.no_semicolon) (segments n) h)
