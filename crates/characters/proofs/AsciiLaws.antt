-- Texts of characters below 128, tested and written.
-- Assumes nothing.
use mathlib.Core.Path.{◌≡◌, refl, ap, sym, ◌∙◌}
use mathlib.Core.Bool.{Bool, true, false, ◌&&◌, and-true, and_assoc, and-false}
use mathlib.Core.List.{List, [], ◌∷◌, ◌++◌, map}
use Prim.Native.Nat.{ℕ, suc, ◌+◌, ◌≤◌, ◌<◌}
use native.Mathlib.Numerals.{add-one}
use native.Mathlib.Omega.{arith}
use borrow.Author.Tests.{ltb-true, lt-ltb, le-ltb, eq-eqb, ne_eqb}
use lib.Bits.{bit_or, or_lt, or_add_and, and_le_l, and_le_r}
use lib.Dec.{ltb}
use lib.ListN.{length, drop, get_or, set, length-set}
use lib.Seq.{sets, drop-cons}
use Rattle.foundation.specs.Choices.{All}
use Rattle.foundation.specs.Texts.{Text}
use Rattle.characters.specs.Characters.{from_utf16}
use Rattle.characters.specs.told.Plain.{instead, is_ascii}
use Rattle.characters.proofs.TestLaws.{below, under}

-- The bits of several numbers together are below 128 if those of each are.
or_below : (a b : ℕ) → ltb (bit_or a b) 128 ≡ (ltb a 128 && ltb b 128)
or_below a b =
    below 128 a
    (λ h. below 128 b (λ k. lt-ltb (bit_or a b) 128 (or_lt 7 a b h k) ∙ sym (rw (lt-ltb a 128 h, lt-ltb b 128 k)))
    λ k. le-ltb (bit_or a b) 128 (omega (arith, or_add_and a b, and_le_l a b)) ∙ sym (rw (le-ltb b 128 k, and-false)))
    λ h. le-ltb (bit_or a b) 128 (omega (arith, or_add_and a b, and_le_r a b)) ∙ sym (rw (le-ltb a 128 h))

-- what stands at a place and after it
pub drop_next : (s : List ℕ) (i : ℕ) → i < length s → drop i s ≡ get_or s i 0 ∷ drop (i + 1) s
drop_next s i h = rw (add-one i, drop-cons s i 0 h)

-- The test: all were below 128 if the bits of all so far are.
ascii-last : (cs : List ℕ) (c : ℕ) → is_ascii (cs ++ c ∷ []) ≡ (is_ascii cs && ltb c 128)
unfolding is_ascii
ascii-last [] c = and-true (ltb c 128)
ascii-last (d ∷ cs) c = ap (λ (t : Bool). ltb d 128 && t) (ascii-last cs c) ∙ sym (and_assoc (ltb d 128) (is_ascii cs) (ltb c 128))

pub ascii_next : (cs : List ℕ) (all c : ℕ) → ltb all 128 ≡ is_ascii cs → ltb (bit_or all c) 128 ≡ is_ascii (cs ++ c ∷ [])
ascii_next cs all c h = or_below all c ∙ ap (λ (t : Bool). t && ltb c 128) h ∙ sym (ascii-last cs c)

-- The same by what is left: what was seen and what is left are the whole.
pub ascii-left : {rest : List ℕ} {w : Bool} (all c : ℕ) (rest' : List ℕ) → rest ≡ c ∷ rest' → (ltb all 128 && is_ascii rest) ≡ w
    → (ltb (bit_or all c) 128 && is_ascii rest') ≡ w
unfolding is_ascii
ascii-left all c rest' e f =
    ap (λ (t : Bool). t && is_ascii rest') (or_below all c)
    ∙ and_assoc (ltb all 128) (ltb c 128) (is_ascii rest')
    ∙ ap (λ (l : List ℕ). ltb all 128 && is_ascii l) (sym e)
    ∙ f

pub ascii-end : {rest : List ℕ} {w : Bool} (all : ℕ) → rest ≡ [] → (ltb all 128 && is_ascii rest) ≡ w → ltb all 128 ≡ w
unfolding is_ascii
ascii-end all e f = sym (and-true (ltb all 128)) ∙ ap (λ (l : List ℕ). ltb all 128 && is_ascii l) (sym e) ∙ f

-- A text in UTF-8 and UTF-16 is itself.
split : (c : ℕ) (cs : List ℕ) → is_ascii (c ∷ cs) ≡ true → (c < 128) × (is_ascii cs ≡ true)
unfolding is_ascii
split c cs = go (ltb c 128) refl
  where
    go : (t : Bool) → ltb c 128 ≡ t → (t && is_ascii cs) ≡ true → (c < 128) × (is_ascii cs ≡ true)
    go true e a = (ltb-true c 128 e, a)
    go false e a = let z : ◌≡◌ {A = ℕ} 0 1 = cc in absurd (omega arith)

pub all_below : (cs : List ℕ) → is_ascii cs ≡ true → All (λ c. c < 128) cs
all_below [] a = tt
all_below (c ∷ cs) a = let s = split c cs a in (s.0, all_below cs s.1)

pub units_alone : (us : List ℕ) → All (λ u. u < 128) us → from_utf16 us ≡ us
unfolding from_utf16
units_alone [] h = refl
units_alone (u ∷ []) h =
    let high = under 0xd800 0xdbff u (omega arith) in
    let low = under 0xdc00 0xdfff u (omega arith) in
    rw (high, low)
units_alone (u ∷ v ∷ us) h =
    let high = under 0xd800 0xdbff u (omega arith) in
    let low = under 0xdc00 0xdfff u (omega arith) in
    rw (high, low) (ap (λ (t : Text). u ∷ t) (units_alone (v ∷ us) h.1))

-- One character for another.
pub instead-is : (from to c : ℕ) → c ≡ from → to ≡ instead from to c
instead-is from to c h = rw (eq-eqb c from h)

pub instead-not : (from to c : ℕ) → (c ≡ from → ⊥) → c ≡ instead from to c
instead-not from to c h = rw (ne_eqb c from h)

-- Written where there is room for all: what is left from here on gives the whole.
pub record Copying (f : ℕ → ℕ) (rest : List ℕ) (to : ℕ) (A₀ A whole : List ℕ) : Type 0 where
  pub ascii : is_ascii rest ≡ true
  pub room : to + length rest ≤ length A
  pub kept : length A ≡ length A₀
  pub left : sets A to (map f rest) ≡ whole

module _ {f : ℕ → ℕ} {rest : List ℕ} {to : ℕ} {A₀ A whole : List ℕ} (k : Copying f rest to A₀ A whole) where
  pub copying-end : rest ≡ [] → A ≡ whole
  copying-end e = ap (λ (l : List ℕ). sets A to (map f l)) (sym e) ∙ k.left

  module _ {c : ℕ} (rest' : List ℕ) (e : rest ≡ c ∷ rest') where
    pub copying-below : c < 128
    copying-below = (split c rest' (ap is_ascii (sym e) ∙ k.ascii)).0

    pub copying-room : to < length A
    copying-room = let l = ap length e in omega (arith, k.room)

    pub copying-next : (next : ℕ) {b : ℕ} → next ≡ suc to → b ≡ f c → Copying f rest' next A₀ (set A to b) whole
    copying-next next n g = record {
      ascii = (split c rest' (ap is_ascii (sym e) ∙ k.ascii)).1;
      room = let l = ap length e in rw length-set (omega (arith, k.room));
      kept = simp length-set k.kept;
      left = rw (g, n) (ap (λ (l : List ℕ). sets A to (map f l)) (sym e) ∙ k.left);
    }
