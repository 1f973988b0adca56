-- Refusals 1 to 4 and the metadata kind, as the code comes to them.
-- Assumes nothing.
use mathlib.Core.Path.{◌≡◌, refl, ap, sym, ◌∙◌}
use mathlib.Core.Bool.{Bool, true, false, ◌&&◌}
use mathlib.Core.List.{List}
use mathlib.Core.Option.{none, some}
use Prim.Native.Nat.{ℕ, ◌+◌, ◌^◌, ◌≤◌, ◌<◌}
use native.Mathlib.Omega.{arith}
use native.Mathlib.Numerals.{add-one}
use lib.Dec.{eqb, leb}
use lib.IntN.{ℤ, pos, negsuc}
use lib.ListN.{length, drop, get_or, drop_of_length-le}
use lib.Seq.{drop-cons}
use lib.Signed.{lt_z, mag}
use mir.Syntax.{w32}
use mir.Val.{SFits, of_z, to_z}
use mir.Facts.{to_z-of_z}
use borrow.Author.Tests.{lt-ltb, le-ltb, le-leb, lt-leb, leb-true}
use Rattle.std.specs.Prelude.{if◌then◌else◌}
use Rattle.foundation.specs.Results.{d1_too_long, d2_too_long, string_ends, newer_version}
use Rattle.foundation.proofs.ChoiceLaws.{if_ind, and_left, and_right}
use Rattle.encoding.specs.Encoding.{unit_limit}
use Rattle.names.specs.Names.{ends_fit}
use Rattle.inputs.specs.Inputs.{Input, kind_of, string_limit, supported_major, major, later_fault, fault_of}

-- The kind, by the bits of k.
pub kind-is : (n : ℕ) (k : ℤ) → 1 ≤ n → n ≤ 5 → SFits w32 k → of_z w32 k ≡ n → n ≡ kind_of k
kind-is n (pos m) h i f e = sym e ∙ simp (le-leb 1 m (omega arith), le-leb m 5 (omega arith))
kind-is n (negsuc m) h i f e = absurd (omega (arith, f.sfits))

pub kind_else : (k : ℤ) → SFits w32 k → (of_z w32 k ≡ 2 → ⊥) → (of_z w32 k ≡ 3 → ⊥) → (of_z w32 k ≡ 4 → ⊥) → (of_z w32 k ≡ 5 → ⊥) → 1 ≡ kind_of k
kind_else (pos m) f b c d e =
    if_ind (λ (n : ℕ). 1 ≡ n) (leb 1 m && leb m 5)
    (λ t. omega (arith, leb-true 1 m (and_left (leb 1 m) (leb m 5) t), leb-true m 5 (and_right (leb 1 m) (leb m 5) t)))
    (λ t. refl)
kind_else (negsuc m) f b c d e = refl

-- Ends from a place on.
module _ (ends : List ℕ) (units at i : ℕ) where
  pub ends-fall : i < length ends → get_or ends i 0 < at → ends_fit at (drop i ends) units ≡ false
  unfolding ends_fit
  ends-fall h l = rw (drop-cons ends i 0 h) (simp (lt-leb at (get_or ends i 0) l))

  pub ends_next : i < length ends → at ≤ get_or ends i 0 → ends_fit at (drop i ends) units ≡ ends_fit (get_or ends i 0) (drop (i + 1) ends) units
  unfolding ends_fit
  ends_next h l = rw (drop-cons ends i 0 h, add-one i) (simp (le-leb at (get_or ends i 0) l))

  pub ends-over : length ends ≤ i → ends_fit at (drop i ends) units ≡ eqb at units
  unfolding ends_fit
  ends-over h = rw (drop_of_length-le ends h)

-- The same of ends some of which may have fallen before that place.
module _ {whole : Bool} (ends : List ℕ) (units at i : ℕ) where
  pub seen-fall : (falls : Bool) → i < length ends → get_or ends i 0 < at → whole ≡ (if falls then false else ends_fit at (drop i ends) units) → whole ≡ false
  seen-fall true h l e = e
  seen-fall false h l e = e ∙ ends-fall ends units at i h l

  pub seen_next : (falls : Bool) → i < length ends → at ≤ get_or ends i 0 → whole ≡ (if falls then false else ends_fit at (drop i ends) units)
      → whole ≡ (if falls then false else ends_fit (get_or ends i 0) (drop (i + 1) ends) units)
  seen_next true h l e = e
  seen_next false h l e = e ∙ ends_next ends units at i h l

  pub seen-over : (falls : Bool) → length ends ≤ i → falls ≡ false → whole ≡ (if falls then false else ends_fit at (drop i ends) units) → whole ≡ eqb at units
  seen-over true h f e = cc
  seen-over false h f e = e ∙ ends-over ends units at i h

-- A number of mv, read from its bits.
pub major-read : (mv : List ℤ) (b : Bool) → mag (get_or mv 0 (pos 0)) < 2 ^ 31 → lt_z supported_major (to_z w32 (of_z w32 (get_or mv 0 (pos 0)))) ≡ b
    → lt_z supported_major (get_or mv 0 (pos 0)) ≡ b
major-read mv b h e = ap (lt_z supported_major) (sym (to_z-of_z {w = w32} {z = get_or mv 0 (pos 0)} (record { sfits = h }))) ∙ e

-- The refusals in their order.
module _ (i : Input) where
  pub d1-long : unit_limit < length i.d1 → fault_of i ≡ some d1_too_long
  unfolding fault_of
  d1-long h = simp (lt-ltb _ _ h)

  module _ (h : length i.d1 ≤ unit_limit) where
    pub d2-long : unit_limit < length i.d2 → fault_of i ≡ some d2_too_long
    unfolding fault_of later_fault
    d2-long d = simp (le-ltb _ _ h, lt-ltb _ _ d)

    module _ (d : length i.d2 ≤ unit_limit) where
      pub strings-many : string_limit < length i.ends → fault_of i ≡ some d2_too_long
      unfolding fault_of later_fault
      strings-many s = simp (le-ltb _ _ h, le-ltb _ _ d, lt-ltb _ _ s)

      module _ (s : length i.ends ≤ string_limit) where
        pub ends-unfit : ends_fit 0 i.ends (length i.d2) ≡ false → fault_of i ≡ some string_ends
        unfolding fault_of later_fault
        ends-unfit e = simp (le-ltb _ _ h, le-ltb _ _ d, le-ltb _ _ s, e)

        module _ (e : ends_fit 0 i.ends (length i.d2) ≡ true) where
          pub version-newer : lt_z supported_major (major i) ≡ true → fault_of i ≡ some newer_version
          unfolding fault_of later_fault
          version-newer v = simp (le-ltb _ _ h, le-ltb _ _ d, le-ltb _ _ s, e, v)

          pub no_fault : lt_z supported_major (major i) ≡ false → fault_of i ≡ none
          unfolding fault_of later_fault
          no_fault v = simp (le-ltb _ _ h, le-ltb _ _ d, le-ltb _ _ s, e, v)
