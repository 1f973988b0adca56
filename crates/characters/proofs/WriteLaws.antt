-- A character's bytes in an area.
-- Assumes nothing.
use mathlib.Core.Path.{◌≡◌, refl, ap, sym, ◌∙◌}
use mathlib.Core.List.{List, [], ◌∷◌}
use Prim.Native.Nat.{ℕ, ◌+◌, ◌≤◌, ◌<◌}
use native.Mathlib.Nat.{add-zero, add-suc}
use native.Mathlib.Numerals.{add-one}
use native.Mathlib.Omega.{arith}
use lib.ListN.{length, drop, drop_of_length-le, get_or, set}
use lib.Seq.{sets}
use Rattle.foundation.specs.Texts.{Text}
use Rattle.foundation.proofs.OverlayLaws.{sets_append}
use Rattle.characters.specs.Characters.{width, utf8_of, utf8}
use Rattle.characters.specs.told.CharactersTold.{PutCharacter}
use Rattle.characters.proofs.Utf8Laws.{utf8-length, by_width, bytes2, bytes3, bytes4}
use Rattle.characters.proofs.AsciiLaws.{drop_next}

-- Bytes are written one after the other: what is left to write gives the whole.
module _ (vs before : List ℕ) (at : ℕ) where
  abbrev pub LeftBytes : ℕ → List ℕ → Type 0
  LeftBytes i now = sets before at vs ≡ sets now (at + i) (drop i vs)

  pub left_bytes-start : LeftBytes 0 before
  left_bytes-start = ap (λ (n : ℕ). sets before n vs) (sym (add-zero at))

  pub left_bytes-next : (i : ℕ) (now : List ℕ) {then : List ℕ} → LeftBytes i now → i < length vs → then ≡ set now (at + i) (get_or vs i 0)
      → LeftBytes (i + 1) then
  left_bytes-next i now g h e = g ∙ rw (drop_next vs i h, e, add-one i) (simp add-suc)

  pub left_bytes-end : (i : ℕ) (now : List ℕ) → LeftBytes i now → length vs ≤ i → now ≡ sets before at vs
  left_bytes-end i now g h = sym (g ∙ ap (sets now (at + i)) (drop_of_length-le vs h))

-- The bytes of a character are those of one width.
abbrev Is : ℕ → List ℕ → ℕ → List ℕ → Type 0
Is n bs w cs = (w ≡ n) × (cs ≡ bs)

module _ (c : ℕ) where
  one_byte : c < 0x80 → Is 1 (c ∷ []) (width c) (utf8_of c)
  one_byte l =
      by_width (Is 1 (c ∷ [])) c
      (λ h. (refl, refl)) (λ h k. absurd (omega arith)) (λ h k. absurd (omega arith)) λ h. absurd (omega arith)

  two_bytes : 0x80 ≤ c → c < 0x800 → Is 2 (bytes2 c) (width c) (utf8_of c)
  two_bytes l m =
      by_width (Is 2 (bytes2 c)) c
      (λ h. absurd (omega arith)) (λ h k. (refl, refl)) (λ h k. absurd (omega arith)) λ h. absurd (omega arith)

  three-bytes : 0x800 ≤ c → c < 0x10000 → Is 3 (bytes3 c) (width c) (utf8_of c)
  three-bytes l m =
      by_width (Is 3 (bytes3 c)) c
      (λ h. absurd (omega arith)) (λ h k. absurd (omega arith)) (λ h k. (refl, refl)) λ h. absurd (omega arith)

  four_bytes : 0x10000 ≤ c → Is 4 (bytes4 c) (width c) (utf8_of c)
  four_bytes l =
      by_width (Is 4 (bytes4 c)) c
      (λ h. absurd (omega arith)) (λ h k. absurd (omega arith)) (λ h k. absurd (omega arith)) λ h. (refl, refl)

-- A character is written by these bytes.
module _ (c at : ℕ) (before : List ℕ) {after : List ℕ} where
  put_whole : (n : ℕ) (bs : List ℕ) → Is n bs (width c) (utf8_of c) → after ≡ sets before at bs → PutCharacter c at n before after
  put_whole n bs i f = record { bytes = sym i.0; written = f ∙ ap (sets before at) (sym i.1) }

  pub put_one : c < 0x80 → after ≡ set before at c → PutCharacter c at 1 before after
  put_one l f = put_whole 1 (c ∷ []) (one_byte c l) f

  pub put_two : 0x80 ≤ c → c < 0x800 → after ≡ sets before at (bytes2 c) → PutCharacter c at 2 before after
  put_two l m f = put_whole 2 (bytes2 c) (two_bytes c l m) f

  pub put_three : 0x800 ≤ c → c < 0x10000 → after ≡ sets before at (bytes3 c) → PutCharacter c at 3 before after
  put_three l m f = put_whole 3 (bytes3 c) (three-bytes c l m) f

  pub put_four : 0x10000 ≤ c → after ≡ sets before at (bytes4 c) → PutCharacter c at 4 before after
  put_four l f = put_whole 4 (bytes4 c) (four_bytes c l) f

-- A text's first character was written: what is left to write gives the whole.
pub put_next : (c at : ℕ) (t : Text) (before : List ℕ) {after : List ℕ} {size : ℕ} → PutCharacter c at size before after
    → sets before at (utf8 (c ∷ t)) ≡ sets after (at + size) (utf8 t)
unfolding utf8
put_next c at t before p = sets_append (utf8_of c) (utf8 t) before at ∙ rw (utf8-length c, ← p.bytes, p.written)
