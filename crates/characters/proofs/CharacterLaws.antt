-- The character at a place: what it says of the text from there on, of the next place, and of its number.
-- Assumes nothing.
use mathlib.Core.Path.{◌≡◌, refl, ap, sym, ◌∙◌, subst}
use mathlib.Core.List.{List, [], ◌∷◌}
use Prim.Native.Nat.{ℕ, zero, suc, ◌+◌, ◌-◌, ◌≤◌, ◌<◌}
use native.Mathlib.Omega.{arith}
use lib.Dec.{T}
use lib.ListN.{length, drop, length-drop}
use lib.Seq.{drop-nil, drop-drop}
use Rattle.foundation.specs.Texts.{Text}
use Rattle.characters.specs.Characters.{is_scalar, step, from_utf8_after, from_utf8}
use Rattle.characters.specs.told.CharactersTold.{Character, character_read, utf8_at}
use Rattle.std.specs.declared.option.Option.TheVariants.{Some, None}
use Rattle.characters.proofs.ScalarLaws.{step_scalar}
use Rattle.characters.proofs.LengthLaws.{step_most}

-- Bytes passed over are dropped.
pub after_drops : (j : ℕ) (bs : List ℕ) → from_utf8_after j bs ≡ from_utf8 (drop j bs)
unfolding from_utf8_after
after_drops j [] = ap from_utf8 (sym (drop-nil j))
after_drops zero (b ∷ bs) = refl
after_drops (suc j) (b ∷ bs) = after_drops j bs

-- The text of some bytes by its first character.
pub from_first : (b : ℕ) (bs : List ℕ) → from_utf8 (b ∷ bs) ≡ (step b bs).character ∷ from_utf8 (drop (step b bs).after bs)
unfolding from_utf8_after
from_first b bs = ap (λ (t : Text). (step b bs).character ∷ t) (after_drops (step b bs).after bs)

-- A character that was read, by its parts.
abbrev code_of : Character → ℕ
code_of (Some r) = r.value
code_of None = 0

abbrev next_of : Character → ℕ
next_of (Some r) = r.next
next_of None = 0

pub read-parts : {code next code' next' : ℕ} → character_read code next ≡ character_read code' next' → (code ≡ code') × (next ≡ next')
read-parts e = (ap code_of e, ap next_of e)

-- What a character of the bytes bs, which go on at `at`, says.
pub record Character8 (at : ℕ) (bs : List ℕ) (code next : ℕ) : Type 0 where
  pub text : from_utf8 bs ≡ code ∷ from_utf8 (drop (next - at) bs)
  pub forward : at < next
  pub inside : next ≤ at + length bs
  pub scalar : T (is_scalar code)

abbrev Says : ℕ → List ℕ → Character → Type 0
Says at bs (Some r) = Character8 at bs r.value r.next
Says at bs None = bs ≡ []

says : (at : ℕ) (bs : List ℕ) → Says at bs (utf8_at at bs)
unfolding utf8_at
says at [] = refl
says at (b ∷ bs) =
    let n = (step b bs).after in
    let e : at + 1 + n - at ≡ suc n = omega arith in
    record {
      text = rw e (from_first b bs);
      forward = omega arith;
      inside = omega (arith, (step_most b bs).0);
      scalar = step_scalar b bs;
    }

-- At a place of s.
module _ (s : List ℕ) (at : ℕ) where
  pub utf8-none : utf8_at at (drop at s) ≡ None → drop at s ≡ []
  utf8-none e = subst (Says at (drop at s)) e (says at (drop at s))

  pub utf8-end : utf8_at at (drop at s) ≡ None → from_utf8 (drop at s) ≡ []
  unfolding from_utf8_after
  utf8-end e = ap from_utf8 (utf8-none e)

  module _ {code next : ℕ} (e : utf8_at at (drop at s) ≡ character_read code next) where
    told : Character8 at (drop at s) code next
    told = subst (Says at (drop at s)) e (says at (drop at s))

    pub utf8-inside : (at < next) × (next ≤ length s)
    utf8-inside = let t = told in (t.forward, omega (arith, t.forward, t.inside, length-drop at s))

    pub utf8-next : from_utf8 (drop at s) ≡ code ∷ from_utf8 (drop next s)
    utf8-next =
        let t = told in
        let n : at + (next - at) ≡ next = omega (arith, t.forward) in
        t.text ∙ ap (λ (l : List ℕ). code ∷ from_utf8 l) (drop-drop (next - at) at s ∙ ap (λ (k : ℕ). drop k s) n)
