-- A class name keeps to the JVM's form by its characters exactly when it does by its bytes in UTF-8.
-- Assumes nothing.
use mathlib.Core.Path.{◌≡◌, refl, ap, sym, ◌∙◌}
use mathlib.Core.Logic.{◌≢◌, ◌↔◌}
use mathlib.Core.List.{List, [], ◌∷◌, ◌++◌, map, append-eq-nil_iff, cons-ne-nil}
use Prim.Native.Nat.{ℕ, ◌<◌, ◌≤◌}
use native.Mathlib.Omega.{arith}
use lib.Dec.{eqb, ltb}
use borrow.Author.Tests.{ltb-true, ltb-false, eqb-true, eqb-false, ne_eqb}
use Rattle.foundation.specs.Choices.{All}
use Rattle.foundation.specs.Texts.{Text}
use Rattle.foundation.proofs.ChoiceLaws.{if_ind, all_weaken, all_append}
use Rattle.characters.specs.Characters.{utf8_of, utf8}
use Rattle.grammar.specs.Grammar.{before_first, segments, Segment, ClassName}
use Rattle.foundation.proofs.EveryLaws.{all_split}
use Rattle.defaults.proofs.ChoiceLaws.{all_map_iff}

-- A character is one byte, itself, or two to four bytes from 80 hex on.
pub data OneOrHigh (c : ℕ) : List ℕ → Type 0 where
  alone : c < 0x80 → OneOrHigh c (c ∷ [])
  high : {b : ℕ} {bs : List ℕ} → 0x80 ≤ c → All (λ x. 0x80 ≤ x) (b ∷ bs) → OneOrHigh c (b ∷ bs)

encoded : (c : ℕ) → OneOrHigh c (utf8_of c)
unfolding utf8_of
encoded c =
    if_ind (OneOrHigh c) (ltb c 0x80) (λ t. alone (ltb-true c 0x80 t)) λ t.
    if_ind (OneOrHigh c) (ltb c 0x800) (λ u. high (ltb-false c 0x80 t) (omega arith)) λ u.
    if_ind (OneOrHigh c) (ltb c 0x10000) (λ v. high (ltb-false c 0x80 t) (omega arith)) λ v. high (ltb-false c 0x80 t) (omega arith)

-- So a byte below 80 hex occurs in the text exactly where it is a character.
module _ (b : ℕ) (below : b < 0x80) where
  character-iff : {c : ℕ} {bs : List ℕ} → OneOrHigh c bs → All (λ x. x ≢ b) bs ↔ (c ≢ b)
  character-iff (alone h) = (λ k. k.0, λ k. (k, tt))
  character-iff {c} (high {b = first} {bs = rest} h k) =
      (λ n e. omega arith, λ n. all_weaken (λ x. 0x80 ≤ x) (λ x. x ≢ b) (λ x j e. omega arith) (first ∷ rest) k)

  text-iff : (t : Text) → All (λ x. x ≢ b) (utf8 t) ↔ All (λ x. x ≢ b) t
  unfolding utf8
  text-iff [] = (λ h. h, λ h. h)
  text-iff (c ∷ cs) =
      let first = character-iff (encoded c) in
      let rest = text-iff cs in (
        λ h. let k = all_split (λ x. x ≢ b) (utf8_of c) (utf8 cs) h in (first.0 k.0, rest.0 k.1),
        λ h. all_append (λ x. x ≢ b) (utf8_of c) (utf8 cs) (first.1 h.0) (rest.1 h.1),
      )

encoded_some : {c : ℕ} {bs : List ℕ} → OneOrHigh c bs → bs ≢ []
encoded_some {c} (alone h) = cons-ne-nil c []
encoded_some (high {b} {bs} h k) = cons-ne-nil b bs

empty_iff : (t : Text) → (utf8 t ≢ []) ↔ (t ≢ [])
unfolding utf8
empty_iff [] = (λ h. h, λ h. h)
empty_iff (c ∷ cs) =
    (λ h. cons-ne-nil c cs, λ h e. encoded_some (encoded c) ((append-eq-nil_iff {p = utf8_of c}).0 e).0)

segment_iff : (t : Text) → Segment (utf8 t) ↔ Segment t
segment_iff t =
    let empty = empty_iff t in
    let semicolon = text-iff 0x3b (omega arith) t in
    let bracket = text-iff 0x5b (omega arith) t in (
      λ s. record {
        non_empty = empty.0 s.non_empty;
        no_semicolon = semicolon.0 s.no_semicolon;
        no_bracket = bracket.0 s.no_bracket;
      },
      λ s. record {
        non_empty = empty.1 s.non_empty;
        no_semicolon = semicolon.1 s.no_semicolon;
        no_bracket = bracket.1 s.no_bracket;
      },
    )

-- The segments of the bytes are the bytes of the segments.
abbrev onto_first : List ℕ → List (List ℕ) → List (List ℕ)
onto_first [] ss = ss
onto_first (b ∷ bs) ss = before_first b (onto_first bs ss)

onto_first_lem : (bs s : List ℕ) (ss : List (List ℕ)) → onto_first bs (s ∷ ss) ≡ (bs ++ s) ∷ ss
onto_first_lem [] s ss = refl
onto_first_lem (b ∷ bs) s ss = ap (before_first b) (onto_first_lem bs s ss)

segments_onto : (bs rest : List ℕ) → All (λ x. x ≢ 0x2f) bs → segments (bs ++ rest) ≡ onto_first bs (segments rest)
unfolding segments
segments_onto [] rest h = refl
segments_onto (b ∷ bs) rest h = rw (ne_eqb b 0x2f h.0) (ap (before_first b) (segments_onto bs rest h.1))

abbrev Filled : List (List ℕ) → Type 0
Filled [] = ⊥
Filled (s ∷ ss) = Unit {0}

segments_filled : (n : List ℕ) → Filled (segments n)
unfolding segments
segments_filled [] = tt
segments_filled (c ∷ cs) = if_ind Filled (eqb c 0x2f) (λ t. tt) (λ t. before (segments cs))
  where
    before : (ss : List (List ℕ)) → Filled (before_first c ss)
    before [] = tt
    before (s ∷ ss) = tt

bytes-before_first : (c : ℕ) (ss : List Text) → Filled ss → map utf8 (before_first c ss) ≡ onto_first (utf8_of c) (map utf8 ss)
unfolding utf8
bytes-before_first c [] h = absurd h
bytes-before_first c (s ∷ ss) h = sym (onto_first_lem (utf8_of c) (utf8 s) (map utf8 ss))

segments-utf8 : (t : Text) → segments (utf8 t) ≡ map utf8 (segments t)
unfolding segments utf8 utf8_of
segments-utf8 [] = refl
segments-utf8 (c ∷ cs) =
    if_ind (λ (ss : List Text). segments (utf8_of c ++ utf8 cs) ≡ map utf8 ss) (eqb c 0x2f)
    (λ t. ap (λ (x : ℕ). segments (utf8_of x ++ utf8 cs)) (eqb-true c 0x2f t) ∙ ap (λ (ss : List (List ℕ)). [] ∷ ss) (segments-utf8 cs))
    λ t.
    segments_onto (utf8_of c) (utf8 cs) ((character-iff 0x2f (omega arith) (encoded c)).1 (eqb-false c 0x2f t))
    ∙ ap (onto_first (utf8_of c)) (segments-utf8 cs)
    ∙ sym (bytes-before_first c (segments cs) (segments_filled cs))

pub form_by_characters : (t : Text) → ClassName (utf8 t) ↔ ClassName t
unfolding ClassName
form_by_characters t = rw (segments-utf8 t) (all_map_iff Segment Segment utf8 segment_iff (segments t))
