-- Names whose size is noted, written.
-- Assumes nothing.
use mathlib.Core.Path.{◌≡◌, ap, sym, ◌∙◌}
use mathlib.Core.Bool.{true}
use mathlib.Core.List.{List, map}
use Prim.Native.Nat.{ℕ, ◌+◌, ◌-◌, ◌≤◌, ◌<◌}
use native.Mathlib.Omega.{arith}
use lib.ListN.{length, length-map}
use lib.Seq.{sets}
use Rattle.foundation.specs.Texts.{Text}
use Rattle.characters.specs.Characters.{utf8}
use Rattle.characters.specs.told.Plain.{is_ascii, shown}
use Rattle.characters.specs.told.CharactersTold.{Character}
use Rattle.names.specs.told.Encoded.{Decoding}
use Rattle.names.specs.told.Name.{fitted, is_measured}
use Rattle.names.specs.told.Stream.{changed, changed_bytes, sized_bytes, NoneReplaced, PutText}
use Rattle.names.specs.declared.name.Change.{Change}
use Rattle.names.proofs.AsciiLaws.{plain-bytes}
use Rattle.names.proofs.FittedLaws.{fitted-bytes, fitted-same}
use Rattle.names.proofs.NameLaws.{sized-fitted}
use Rattle.names.proofs.WidthLaws.{put-past}

-- Copied at once: characters below 128, of which none is replaced.
pub measured_copied : {decoded : List ℕ → Text} {character : ℕ → List ℕ → Character} → Decoding decoded character
    → (h : Change) → NoneReplaced h → (s : List ℕ) → is_ascii s ≡ true → (size at : ℕ) → length s ≡ size → (A : List ℕ) {B : List ℕ}
    → B ≡ sets A at (map (shown h.dots h.slashes) s) → B ≡ sets A at (utf8 (fitted size (map (changed h) (decoded s))))
measured_copied {decoded} d h e s a size at l A w =
    let b = plain-bytes h e d s a in
    let z : length (utf8 (map (changed h) (decoded s))) ≡ size = ap length b ∙ length-map s (shown h.dots h.slashes) ∙ l in
    w ∙ ap (sets A at) (sym b) ∙ ap (λ (t : Text). sets A at (utf8 t)) (sym (fitted-same size (map (changed h) (decoded s)) z))

module _ (size : ℕ) (h : Change) (m : is_measured size ≡ true) {o t : Text} (e : o ≡ t) (at : ℕ) where
  noted-long : length (sized_bytes size h o) ≡ size
  noted-long = ap length (sym (sized-fitted size h e m)) ∙ fitted-bytes size (map (changed h) t)

  pub noted-past : {A : List ℕ} → length A ≤ at → PutText (sized_bytes size h o) at (at + size) A A
  noted-past l = put-past (sized_bytes size h o) l (omega (arith, noted-long))

  pub noted-put : {A B : List ℕ} → B ≡ sets A at (utf8 (fitted size (map (changed h) t))) → PutText (sized_bytes size h o) at (at + size) A B
  noted-put {A} w = record { place = omega (arith, noted-long); written = w ∙ ap (sets A at) (sized-fitted size h e m) }

  pub noted-fits : (K : ℕ) → at + length (sized_bytes size h o) < K → at + size < K
  noted-fits K l = omega (arith, noted-long)

-- A text that was measured, written as far as the area goes.
pub first-put : (h : Change) (t : Text) (at : ℕ) (A : List ℕ) {next : ℕ} {B : List ℕ} → next ≡ at + length (changed_bytes h t)
    → B ≡ sets A at (utf8 (fitted (next - at) (map (changed h) t))) → PutText (changed_bytes h t) at next A B
first-put h t at A {next} e w =
    let z : length (changed_bytes h t) ≡ next - at = omega arith in
    record { place = e; written = w ∙ ap (λ (u : Text). sets A at (utf8 u)) (fitted-same (next - at) (map (changed h) t) z) }
