-- 16-bit units at a place of a string: what stands there, by its units, and what that says of the text from there on.
-- Assumes nothing.
use mathlib.Core.Path.{◌≡◌, refl, ap, ◌∙◌, subst}
use mathlib.Core.Bool.{true, false}
use mathlib.Core.List.{List, [], ◌∷◌}
use mathlib.Core.Logic.{◌⊎◌, inl, inr}
use Prim.Native.Nat.{ℕ, suc, ◌+◌, ◌-◌, ◌≤◌, ◌<◌}
use native.Mathlib.Numerals.{add-one}
use native.Mathlib.Omega.{arith}
use lib.Dec.{T}
use lib.ListN.{length, drop, get_or, length-take, length-drop, drop_of_length-le}
use lib.Seq.{drop-cons, drop-drop}
use Rattle.foundation.proofs.ChoiceLaws.{if_ind, drop-take}
use Rattle.characters.specs.Characters.{is_scalar, is_high, is_low, lone, pair, replacement, from_utf16}
use Rattle.characters.specs.told.Places.{part_from}
use Rattle.characters.specs.WellFormed.{Units}
use Rattle.characters.specs.told.CharactersTold.{Character, character_read, paired_at, utf16_at}
use Rattle.std.specs.declared.option.Option.TheVariants.{Some, None}
use Rattle.characters.proofs.TestLaws.{above, under}
use Rattle.characters.proofs.ScalarLaws.{lone_scalar, pair_scalar, replacement_scalar}

-- The units from a place on to an end: none, or the one there and those after it.
module _ (s : List ℕ) (at end : ℕ) where
  pub units-ended : end ≤ at → part_from at end s ≡ []
  units-ended h = let z : end - at ≡ 0 = omega arith in rw z

  pub units-cons : at < end → at < length s → part_from at end s ≡ get_or s at 0 ∷ part_from (at + 1) end s
  units-cons e h = let z : end - at ≡ suc (end - (at + 1)) = omega arith in rw (z, drop-cons s at 0 h, add-one at)

-- What stands at a place: nothing past the end, or a unit.
module _ (s : List ℕ) (at : ℕ) where
  pub pair-missing : (high : ℕ) → length s ≤ at → character_read replacement at ≡ paired_at high at (drop at s)
  unfolding paired_at
  pair-missing high h = rw (drop_of_length-le s h)

  pub unit-none : length s ≤ at → None ≡ utf16_at at (drop at s)
  unfolding utf16_at
  unit-none h = rw (drop_of_length-le s h)

  module _ (h : at < length s) {u : ℕ} (i : u ≡ get_or s at 0) where
    there : drop at s ≡ u ∷ drop (at + 1) s
    there = drop-cons s at 0 h ∙ rw (i, add-one at)

    pub pair-wrong : (high : ℕ) → is_low u ≡ false → character_read replacement at ≡ paired_at high at (drop at s)
    unfolding paired_at
    pair-wrong high l = rw (there, l)

    pub pair-right : (high : ℕ) → is_low u ≡ true → character_read (pair high u) (at + 1) ≡ paired_at high at (drop at s)
    unfolding paired_at
    pair-right high l = rw (there, l)

    pub unit-plain : (u < 0xd800) ⊎ ((0xd800 ≤ u) × (0xdfff < u)) → character_read u (at + 1) ≡ utf16_at at (drop at s)
    unfolding utf16_at
    unit-plain (inl k) = rw there (rw (under 0xd800 0xdbff u k, under 0xdc00 0xdfff u (omega arith)))
    unit-plain (inr k) = rw there (rw (above 0xd800 0xdbff u (omega arith), above 0xdc00 0xdfff u k.1))

    pub unit-low : is_high u ≡ false → is_low u ≡ true → character_read replacement (at + 1) ≡ utf16_at at (drop at s)
    unfolding utf16_at
    unit-low k l = rw there (rw (k, l))

    pub unit-high : is_high u ≡ true → paired_at u (at + 1) (drop (at + 1) s) ≡ utf16_at at (drop at s)
    unfolding utf16_at
    unit-high k = rw (there, k)

-- What a character of the units us, which go on at `at`, says.
pub record Character16 (at : ℕ) (us : List ℕ) (code next : ℕ) : Type 0 where
  pub text : from_utf16 us ≡ code ∷ from_utf16 (drop (next - at) us)
  pub forward : at < next
  pub inside : next ≤ at + length us
  pub scalar : Units us → T (is_scalar code)

abbrev Says : ℕ → List ℕ → Character → Type 0
Says at us (Some r) = Character16 at us r.value r.next
Says at us None = us ≡ []

-- one unit, or two
says_one : (at u : ℕ) (us : List ℕ) (c : ℕ) → from_utf16 (u ∷ us) ≡ c ∷ from_utf16 us → (Units (u ∷ us) → T (is_scalar c)) → Character16 at (u ∷ us) c (at + 1)
says_one at u us c e h =
    let z : at + 1 - at ≡ 1 = omega arith in
    record { text = rw z e; forward = omega arith; inside = omega arith; scalar = h }

says_two : (at u v : ℕ) (us : List ℕ) → is_high u ≡ true → is_low v ≡ true → Character16 at (u ∷ v ∷ us) (pair u v) (at + 1 + 1)
unfolding from_utf16
says_two at u v us k l =
    let z : at + 1 + 1 - at ≡ 2 = omega arith in
    record { text = rw (z, k, l); forward = omega arith; inside = omega arith; scalar = λ h. pair_scalar u v (rw (k, l) tt) }

says : (at : ℕ) (us : List ℕ) → Says at us (utf16_at at us)
unfolding utf16_at paired_at from_utf16
says at [] = refl
says at (u ∷ []) =
    if_ind (Says at (u ∷ [])) (is_high u) (λ k. says_one at u [] replacement (rw k) λ h. replacement_scalar) λ k.
    says_one at u [] (lone u) refl λ h. lone_scalar u h.0
says at (u ∷ v ∷ us) =
    let S = Says at (u ∷ v ∷ us) in
    if_ind S (is_high u)
    (λ k. if_ind S (is_low v) (says_two at u v us k) λ l. says_one at u (v ∷ us) replacement (rw (k, l)) λ h. replacement_scalar)
    λ k. says_one at u (v ∷ us) (lone u) (rw k) λ h. lone_scalar u h.0

-- At a place of s.
module _ (s : List ℕ) (at : ℕ) where
  pub utf16-end : utf16_at at (drop at s) ≡ None → from_utf16 (drop at s) ≡ []
  unfolding from_utf16
  utf16-end e = ap from_utf16 (subst (Says at (drop at s)) e (says at (drop at s)))

  module _ {code next : ℕ} (e : utf16_at at (drop at s) ≡ character_read code next) where
    told : Character16 at (drop at s) code next
    told = subst (Says at (drop at s)) e (says at (drop at s))

    pub utf16-inside : (at < next) × (next ≤ length s)
    utf16-inside = let t = told in (t.forward, omega (arith, t.forward, t.inside, length-drop at s))

    pub utf16-next : from_utf16 (drop at s) ≡ code ∷ from_utf16 (drop next s)
    utf16-next =
        let t = told in
        let n : at + (next - at) ≡ next = omega (arith, t.forward) in
        t.text ∙ ap (λ (l : List ℕ). code ∷ from_utf16 l) (drop-drop (next - at) at s ∙ ap (λ (k : ℕ). drop k s) n)

-- The same of a string in s that ends at `end`.
module _ (s : List ℕ) (at end : ℕ) where
  pub utf16-part-end : utf16_at at (part_from at end s) ≡ None → from_utf16 (part_from at end s) ≡ []
  unfolding from_utf16
  utf16-part-end e = ap from_utf16 (subst (Says at (part_from at end s)) e (says at (part_from at end s)))

  module _ {code next : ℕ} (e : utf16_at at (part_from at end s) ≡ character_read code next) where
    part-told : Character16 at (part_from at end s) code next
    part-told = subst (Says at (part_from at end s)) e (says at (part_from at end s))

    pub utf16-part-inside : (at < next) × (next ≤ end) × (next ≤ length s)
    utf16-part-inside = let t = part-told in omega (arith, t.forward, t.inside, length-take (end - at) (drop at s), length-drop at s)

    pub utf16-part-next : from_utf16 (part_from at end s) ≡ code ∷ from_utf16 (part_from next end s)
    utf16-part-next =
        let t = part-told in
        let i = utf16-part-inside in
        let j = next - at in
        let p : end - at ≡ j + (end - next) = omega arith in
        let q : at + j ≡ next = omega arith in
        let r : drop j (part_from at end s) ≡ part_from next end s = rw (p, drop-take j (end - next) (drop at s), drop-drop j at s, q) in
        t.text ∙ ap (λ (us : List ℕ). code ∷ from_utf16 us) r
