-- Changes that keep how many bytes each character takes: a text is as long changed as it is.
-- Assumes nothing.
use mathlib.Core.Path.{◌≡◌, refl, ap, sym, ◌∙◌}
use mathlib.Core.Bool.{Bool, true, false}
use mathlib.Core.List.{List, [], ◌∷◌, map}
use Prim.Native.Nat.{ℕ, ◌+◌, ◌≤◌, ◌<◌}
use native.Mathlib.Omega.{arith}
use borrow.Author.Tests.{eqb-true}
use lib.Dec.{eqb}
use lib.ListN.{length}
use Rattle.std.specs.Prelude.{IfSome}
use Rattle.std.specs.Bool.{then_some}
use Rattle.foundation.specs.Choices.{All}
use Rattle.foundation.specs.Texts.{Text}
use Rattle.foundation.proofs.ChoiceLaws.{if_ind}
use Rattle.foundation.proofs.OverlayLaws.{sets_out}
use Rattle.characters.specs.Characters.{width, utf8, from_utf8}
use Rattle.characters.specs.told.Plain.{instead, with_dots, slashed_character, is_ascii}
use Rattle.characters.proofs.AsciiLaws.{all_below}
use Rattle.characters.proofs.SeamLaws.{from-ascii}
use Rattle.characters.proofs.LengthLaws.{bytes_cons}
use Rattle.characters.proofs.SizeLaws.{width_one}
use Rattle.names.specs.told.Stream.{with_dollars, changed, changed_bytes, KeepsWidth, PutText}
use Rattle.names.specs.declared.name.Change.{Change}

instead-width : (a b c : ℕ) → width a ≡ width b → width (instead a b c) ≡ width c
instead-width a b c e =
    if_ind (λ (n : ℕ). width n ≡ width c) (eqb c a) (λ t. sym e ∙ ap width (sym (eqb-true c a t))) λ t. refl

pub dots_width : (t : Bool) (c : ℕ) → width (with_dots t c) ≡ width c
unfolding width
dots_width true c = instead-width 0x2f 0x2e (instead 0x24 0x2e c) refl ∙ instead-width 0x24 0x2e c refl
dots_width false c = refl

pub dollars-width : (t : Bool) (c : ℕ) → width (with_dollars t c) ≡ width c
unfolding width
dollars-width true c = instead-width 0x24 0x2e c refl
dollars-width false c = refl

pub slashes_width : (t : Bool) (c : ℕ) → width (slashed_character t c) ≡ width c
unfolding width
slashes_width true c = instead-width 0x2e 0x2f c refl
slashes_width false c = refl

pub keeps : (h : Change) {a b : ℕ} → a ≡ width h.from → b ≡ width h.to → eqb a b ≡ true → KeepsWidth h
unfolding changed
keeps h {a} {b} p q e c =
    let d = instead h.from h.to c in
    slashes_width h.slashes (with_dots h.dots (with_dollars h.dollars d))
    ∙ dots_width h.dots (with_dollars h.dollars d)
    ∙ dollars-width h.dollars d
    ∙ instead-width h.from h.to c (sym p ∙ eqb-true a b e ∙ q)

module _ (h : Change) (k : KeepsWidth h) where
  kept : (t : Text) → length (changed_bytes h t) ≡ length (utf8 t)
  unfolding utf8
  kept [] = refl
  kept (c ∷ t) = omega (arith, bytes_cons (changed h c) (map (changed h) t), bytes_cons c t, k c, kept t)

  -- where the text was measured
  module _ (t : Text) (at : ℕ) where
    pub kept-fits : (K : ℕ) → at + length (changed_bytes h t) < K → length (utf8 t) < K
    kept-fits K l = omega (arith, kept t)

    pub kept-place : {n : ℕ} → n ≡ length (utf8 t) → at + n ≡ at + length (changed_bytes h t)
    kept-place e = omega (arith, kept t)

    pub kept-sum : {n : ℕ} (K : ℕ) → n ≡ length (utf8 t) → at + length (changed_bytes h t) < K → at + n < K
    kept-sum K e l = omega (arith, kept t)

-- Characters below 128 take a byte each.
ascii-length : (t : Text) → All (λ c. c < 128) t → length t ≡ length (utf8 t)
unfolding utf8
ascii-length [] a = refl
ascii-length (c ∷ t) a = omega (arith, bytes_cons c t, width_one c a.0, ascii-length t a.1)

bytes-length : (s : List ℕ) → is_ascii s ≡ true → length s ≡ length (utf8 (from_utf8 s))
bytes-length s a = let k = all_below s a in ascii-length s k ∙ ap (λ (t : Text). length (utf8 t)) (sym (from-ascii s k))

pub bytes-at_once : (s : List ℕ) (b : Bool) → b ≡ is_ascii s → IfSome (then_some b (length s)) (λ size. size ≡ length (utf8 (from_utf8 s)))
bytes-at_once s true e = bytes-length s (sym e)
bytes-at_once s false e = tt

-- Past the area nothing is written.
pub put-past : {A : List ℕ} {at next : ℕ} (bytes : List ℕ) → length A ≤ at → next ≡ at + length bytes → PutText bytes at next A A
put-past {A} {at} bytes h e = record { place = e; written = sym (sets_out bytes A at h) }
