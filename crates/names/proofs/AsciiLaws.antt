-- Texts of characters below 128, changed and written.
-- Assumes nothing.
use mathlib.Core.Path.{◌≡◌, refl, ap, sym, ◌∙◌}
use mathlib.Core.Bool.{Bool, true, false}
use mathlib.Core.List.{List, [], ◌∷◌, map}
use Prim.Native.Nat.{ℕ, ◌+◌, ◌≤◌, ◌<◌}
use native.Mathlib.Omega.{arith}
use borrow.Author.Tests.{lt-ltb, eqb-true}
use lib.Dec.{eqb}
use lib.ListN.{length, length-map}
use lib.Seq.{sets}
use Rattle.foundation.specs.Choices.{All}
use Rattle.foundation.specs.Texts.{Text}
use Rattle.foundation.proofs.ChoiceLaws.{if_ind}
use Rattle.foundation.proofs.OverlayLaws.{sets_out}
use Rattle.characters.specs.Characters.{utf8_of, utf8, from_utf8, from_utf16}
use Rattle.characters.specs.told.Plain.{instead, with_dots, slashed_character, is_ascii, shown}
use Rattle.characters.proofs.AsciiLaws.{all_below}
use Rattle.characters.specs.told.CharactersTold.{Character}
use Rattle.names.specs.told.Encoded.{Decoding, bytes_decode, units_decode}
use Rattle.names.specs.told.Stream.{changed, changed_bytes, NoneReplaced, PutText}
use Rattle.names.specs.declared.name.Change.{Change}

-- Changed, if none is replaced.
same-instead : (a b c : ℕ) → a ≡ b → instead a b c ≡ c
same-instead a b c e = if_ind (λ (n : ℕ). n ≡ c) (eqb c a) (λ t. sym (eqb-true c a t ∙ e)) λ t. refl

instead-below : (a b c : ℕ) → b < 128 → c < 128 → instead a b c < 128
instead-below a b c h k = if_ind (λ (n : ℕ). n < 128) (eqb c a) (λ t. h) λ t. k

shown-below : (dots slashes : Bool) (c : ℕ) → c < 128 → shown dots slashes c < 128
shown-below dots slashes c h = slashed slashes (dotted dots)
  where
    dotted : (t : Bool) → with_dots t c < 128
    dotted true = instead-below 0x2f 0x2e (instead 0x24 0x2e c) (omega arith) (instead-below 0x24 0x2e c (omega arith) h)
    dotted false = h

    slashed : (t : Bool) → with_dots dots c < 128 → slashed_character t (with_dots dots c) < 128
    slashed true k = instead-below 0x2e 0x2f (with_dots dots c) (omega arith) k
    slashed false k = k

module _ (h : Change) (e : NoneReplaced h) where
  changed-one : (c : ℕ) → c < 128 → utf8_of (changed h c) ≡ shown h.dots h.slashes c ∷ []
  unfolding changed utf8_of
  changed-one c k = rw (same-instead h.from h.to c e.same, e.dollars, lt-ltb (shown h.dots h.slashes c) 0x80 (shown-below h.dots h.slashes c k))

  changed-all : (t : Text) → All (λ c. c < 128) t → changed_bytes h t ≡ map (shown h.dots h.slashes) t
  unfolding utf8
  changed-all [] k = refl
  changed-all (c ∷ t) k = rw (changed-one c k.0) (ap (λ (bs : List ℕ). shown h.dots h.slashes c ∷ bs) (changed-all t k.1))

  pub plain-bytes : {decoded : List ℕ → Text} {character : ℕ → List ℕ → Character} → Decoding decoded character → (cs : List ℕ) → is_ascii cs ≡ true
      → changed_bytes h (decoded cs) ≡ map (shown h.dots h.slashes) cs
  plain-bytes d cs a = ap (changed_bytes h) (d.plain cs a) ∙ changed-all cs (all_below cs a)

  -- of units, and of bytes
  module _ (cs : List ℕ) (a : is_ascii cs ≡ true) where
    pub units-bytes : changed_bytes h (from_utf16 cs) ≡ map (shown h.dots h.slashes) cs
    units-bytes = plain-bytes units_decode cs a

    pub bytes-bytes : changed_bytes h (from_utf8 cs) ≡ map (shown h.dots h.slashes) cs
    bytes-bytes = plain-bytes bytes_decode cs a

-- Written at once, or not at all where there is no room.
module _ {bytes : List ℕ} (f : ℕ → ℕ) (cs : List ℕ) (at : ℕ) {n : ℕ} (e : bytes ≡ map f cs) (l : length cs ≡ n) where
  long : length bytes ≡ n
  long = ap length e ∙ length-map cs f ∙ l

  pub shown-put : {A B : List ℕ} → B ≡ sets A at (map f cs) → PutText bytes at (at + n) A B
  shown-put {A} w = record { place = omega (arith, long); written = w ∙ ap (sets A at) (sym e) }

  pub shown-past : {A : List ℕ} → length A ≤ at → PutText bytes at (at + n) A A
  shown-past {A} h = shown-put (sym (sets_out (map f cs) A at h))

  pub shown-fits : (K : ℕ) → at + length bytes < K → at + n < K
  shown-fits K h = omega (arith, long)

pub not_plain_lem : {A : Type 0} → false ≡ true → A
not_plain_lem e = let z : ◌≡◌ {A = ℕ} 0 1 = cc in absurd (omega arith)
