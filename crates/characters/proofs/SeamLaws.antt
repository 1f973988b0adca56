-- Where the text of two parts in a row is that of the one and then of the other, whatever stands in them.
-- Assumes nothing.
use mathlib.Core.Path.{◌≡◌, refl, ap, sym, ◌∙◌}
use mathlib.Core.Bool.{Bool, true, false, ◌&&◌, and-false}
use mathlib.Core.List.Memᴰ
use mathlib.Core.List.{List, [], ◌∷◌, ◌++◌}
use mathlib.Core.Option.{Option, none, some}
use Prim.Native.Nat.{ℕ, suc, ◌<◌}
use native.Mathlib.Omega.{arith}
use lib.Dec.{T, leb, leb→le}
use lib.ListN.{drop}
use lib.Seq.{drop-append-le, take-append-le}
use Rattle.std.specs.Prelude.{if◌then◌else◌}
use Rattle.foundation.specs.Choices.{if_some, All, IfSome}
use Rattle.foundation.specs.Texts.{Text}
use Rattle.characters.specs.Characters.{Range, in_range, Lead, leads, lead_of, run, step, step_by, from_utf8_after, from_utf8, is_high, is_low, lone, pair, from_utf16}
use Rattle.characters.proofs.TestLaws.{under, in_between}
use Rattle.foundation.proofs.EveryLaws.{every, every_all}
use Rattle.characters.proofs.Utf8Laws.{lead_of_lem}
use Rattle.characters.proofs.StepLaws.{lead_found, alone}
use Rattle.characters.proofs.LengthLaws.{run_most, step_most}
use Rattle.characters.proofs.CharacterLaws.{from_first}
use Rattle.characters.proofs.SplitLaws.{step-by-step}

-- Units that don't begin with a low surrogate are read by themselves.
pub units_seam : (us : List ℕ) (v : ℕ) (vs : List ℕ) → is_low v ≡ false → from_utf16 (us ++ (v ∷ vs)) ≡ from_utf16 us ++ from_utf16 (v ∷ vs)
unfolding from_utf16
units_seam [] v vs l = refl
units_seam (u ∷ []) v vs l = rw (l, and-false)
units_seam (u ∷ w ∷ us) v vs l = go (is_high u && is_low w) (units_seam us v vs l) (units_seam (w ∷ us) v vs l)
  where
    go : (t : Bool) → from_utf16 (us ++ (v ∷ vs)) ≡ from_utf16 us ++ from_utf16 (v ∷ vs)
        → from_utf16 (w ∷ us ++ (v ∷ vs)) ≡ from_utf16 (w ∷ us) ++ from_utf16 (v ∷ vs)
        → (if t then pair u w ∷ from_utf16 (us ++ (v ∷ vs)) else lone u ∷ from_utf16 (w ∷ us ++ (v ∷ vs)))
        ≡ (if t then pair u w ∷ from_utf16 us else lone u ∷ from_utf16 (w ∷ us)) ++ from_utf16 (v ∷ vs)
    go true p q = ap (λ (t : Text). pair u w ∷ t) p
    go false p q = ap (λ (t : Text). lone u ∷ t) q

-- A byte below 128 stands alone: it begins a character, it goes on with none.
module _ (c : ℕ) (cs : List ℕ) (h : c < 0x80) where
  run-seam : (rs : List Range) (bs : List ℕ) → All (λ r. T (leb 0x80 r.low)) rs → run rs (bs ++ (c ∷ cs)) ≡ run rs bs
  unfolding run
  run-seam [] bs p = refl
  run-seam (r ∷ rs) [] p = rw (under r.low r.high c (omega (arith, leb→le 0x80 r.low p.0)))
  run-seam (r ∷ rs) (b ∷ bs) p = ap (λ (n : ℕ). if in_range r b then suc n else 0) (run-seam rs bs p.1)

  step-by-seam : (l : Lead) (b : ℕ) (bs : List ℕ) → All (λ r. T (leb 0x80 r.low)) l.following → step_by l b (bs ++ (c ∷ cs)) ≡ step_by l b bs
  step-by-seam l b bs p =
      let rs = l.following in
      rw (run-seam rs bs p, take-append-le (run rs bs) bs (c ∷ cs) (run_most rs bs))

  step-seam : (b : ℕ) (bs : List ℕ) → step b (bs ++ (c ∷ cs)) ≡ step b bs
  unfolding step
  step-seam b bs = go (lead_of b leads) (lead_found Trails b leads (every_all trails leads tt))
    where
      trails : Lead → Bool
      trails l = every (λ r. leb 0x80 r.low) l.following

      Trails : Lead → Type 0
      Trails l = T (trails l)

      go : (o : Option Lead) → IfSome (λ l. Trails l × T (in_range l.first b)) o
          → if_some o alone (λ l. step_by l b (bs ++ (c ∷ cs))) ≡ if_some o alone λ l. step_by l b bs
      go none p = refl
      go (some l) p = step-by-seam l b bs (every_all (λ r. leb 0x80 r.low) l.following p.0)

  pub ascii-seam : (bs : List ℕ) → from_utf8 (bs ++ (c ∷ cs)) ≡ from_utf8 bs ++ from_utf8 (c ∷ cs)
  unfolding from_utf8_after
  ascii-seam = step-by-step (λ bs. from_utf8 (bs ++ (c ∷ cs)) ≡ from_utf8 bs ++ from_utf8 (c ∷ cs)) nothing first
    where
      nothing : from_utf8 ([] ++ (c ∷ cs)) ≡ from_utf8 [] ++ from_utf8 (c ∷ cs)
      nothing = refl

      first : (b : ℕ) (bs : List ℕ) → let rest = drop (step b bs).after bs in
          from_utf8 (rest ++ (c ∷ cs)) ≡ from_utf8 rest ++ from_utf8 (c ∷ cs) → from_utf8 (b ∷ bs ++ (c ∷ cs)) ≡ from_utf8 (b ∷ bs) ++ from_utf8 (c ∷ cs)
      first b bs e =
          let d = (step b bs).character in
          from_first b (bs ++ (c ∷ cs))
          ∙ rw (step-seam b bs, drop-append-le (step b bs).after bs (c ∷ cs) (step_most b bs).0) (ap (λ (t : Text). d ∷ t) e)
          ∙ ap (λ (t : Text). t ++ from_utf8 (c ∷ cs)) (sym (from_first b bs))

  step-ascii : step c cs ≡ record { character = c; after = 0 }
  unfolding step run
  step-ascii = rw (lead_of_lem c (Memᴰ.head refl) (in_between 0 0x7f c (omega arith)))

  pub ascii-first : from_utf8 (c ∷ cs) ≡ c ∷ from_utf8 cs
  ascii-first = from_first c cs ∙ rw step-ascii

pub from-ascii : (bs : List ℕ) → All (λ b. b < 0x80) bs → from_utf8 bs ≡ bs
unfolding from_utf8_after
from-ascii [] h = refl
from-ascii (b ∷ bs) h = ascii-first b bs h.0 ∙ ap (λ (t : Text). b ∷ t) (from-ascii bs h.1)
