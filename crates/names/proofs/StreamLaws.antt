-- Texts written character by character.
-- Assumes nothing.
use mathlib.Core.Path.{◌≡◌, refl, ap, sym, subst, ◌∙◌}
use mathlib.Core.List.{List, [], ◌∷◌, ◌++◌, map}
use Prim.Native.Nat.{ℕ, ◌+◌, ◌<◌}
use native.Mathlib.Omega.{arith}
use lib.ListN.{length, length-append}
use lib.Seq.{sets, length-sets}
use Rattle.foundation.specs.Texts.{Text}
use Rattle.foundation.proofs.OverlayLaws.{sets_then}
use Rattle.characters.specs.Characters.{utf8_of, utf8}
use Rattle.characters.specs.told.CharactersTold.{PutCharacter}
use Rattle.characters.proofs.Utf8Laws.{utf8-length}
use Rattle.characters.proofs.WriteLaws.{put_next}
use Rattle.names.specs.told.Stream.{changed, changed_bytes, PutText}
use Rattle.names.specs.declared.name.Change.{Change}

-- Of a whole text, written from `at` on over the area A₀, the rest is to be written from `to` on over A.
pub record Streaming (h : Change) (whole rest : Text) (at to : ℕ) (A₀ A : List ℕ) : Type 0 where
  pub place : to + length (changed_bytes h rest) ≡ at + length (changed_bytes h whole)
  pub written : sets A to (changed_bytes h rest) ≡ sets A₀ at (changed_bytes h whole)
  pub kept : length A ≡ length A₀

pub streaming_start : (h : Change) (t : Text) (at : ℕ) (A : List ℕ) → Streaming h t t at at A A
streaming_start h t at A = record { place = refl; written = refl; kept = refl }

module _ {h : Change} {whole rest : Text} {at to : ℕ} {A₀ A : List ℕ} (s : Streaming h whole rest at to A₀ A) where
  pub streaming-end : rest ≡ [] → PutText (changed_bytes h whole) at to A₀ A
  unfolding utf8
  streaming-end e =
      let p : changed_bytes h rest ≡ [] = ap (changed_bytes h) e in
      record {
        place = let q = ap length p in omega (arith, s.place);
        written = ap (sets A to) (sym p) ∙ s.written;
      }

  module _ (rest' : Text) {code c size : ℕ} {A' : List ℕ} (e : rest ≡ code ∷ rest') (f : c ≡ changed h code) (p : PutCharacter c to size A A') where
    bytes-are : changed_bytes h rest ≡ utf8_of c ++ changed_bytes h rest'
    unfolding utf8
    bytes-are = ap (changed_bytes h) e ∙ ap (λ (x : ℕ). utf8_of x ++ changed_bytes h rest') (sym f)

    size_is : size ≡ length (utf8_of c)
    size_is = p.bytes ∙ sym (utf8-length c)

    place_is : to + size + length (changed_bytes h rest') ≡ at + length (changed_bytes h whole)
    place_is = let q = ap length bytes-are ∙ length-append (utf8_of c) (changed_bytes h rest') in omega (arith, size_is, s.place)

    pub streaming-fits : (K : ℕ) → at + length (changed_bytes h whole) < K → to + size < K
    streaming-fits K l = omega (arith, place_is)

    pub streaming-next : Streaming h whole rest' at (to + size) A₀ A'
    unfolding utf8
    streaming-next = record {
      place = place_is;
      written =
          sym (put_next c to (map (changed h) rest') A p) ∙ ap (sets A to) (sym bytes-are) ∙ s.written;
      kept = ap length p.written ∙ simp length-sets s.kept;
    }

-- Bytes written, and more after them.
pub text_none : (at : ℕ) (A : List ℕ) {bytes : List ℕ} → bytes ≡ [] → PutText bytes at at A A
text_none at A e = record { place = let q = ap length e in omega arith; written = ap (sets A at) (sym e) }

pub text_then : {p q : List ℕ} {at next after : ℕ} {A B C : List ℕ} → PutText p at next A B → PutText q next after B C → PutText (p ++ q) at after A C
text_then {p} {q} {at} {next} {after} {A} {B} {C} f g = record {
  place = g.place ∙ omega (arith, f.place, length-append p q);
  written = sets_then p q A at f.written f.place g.written;
}

pub text_same : {p q : List ℕ} {at next : ℕ} {A B : List ℕ} → p ≡ q → PutText p at next A B → PutText q at next A B
text_same {p} {q} {at} {next} {A} {B} e f = subst (λ (x : List ℕ). PutText x at next A B) e f

-- Bytes that fit, by their length.
pub fits-same : {p q : List ℕ} (K at : ℕ) → p ≡ q → at + length q < K → at + length p < K
fits-same K at e h = let f = ap length e in omega arith

pub fits-first : (p q : List ℕ) {b : List ℕ} (K at : ℕ) → b ≡ p ++ q → at + length b < K → at + length p < K
fits-first p q K at e h = let f = ap length e ∙ length-append p q in omega arith

pub fits_then : {p : List ℕ} (q : List ℕ) {b : List ℕ} (K at : ℕ) {next : ℕ} {A B : List ℕ} → b ≡ p ++ q → PutText p at next A B → at + length b < K
    → next + length q < K
fits_then {p} q K at e f h = let g = ap length e ∙ length-append p q in omega (arith, f.place)

pub text-whole : {p q : List ℕ} (at : ℕ) {A B : List ℕ} → p ≡ q → B ≡ sets A at q → PutText p at (at + length q) A B
text-whole at {A} e f = record { place = let g = ap length e in omega arith; written = f ∙ ap (sets A at) (sym e) }
