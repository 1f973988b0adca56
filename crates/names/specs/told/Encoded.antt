-- What is known of a text that is read character by character, whatever its encoding, and that it holds of both.
-- Assumes nothing.
use Rattle.std.specs.Prelude.{◌≡◌, true, List, [], ◌∷◌, ℕ, ◌≤◌, ◌<◌, length, drop, None}
use Rattle.std.proofs.Common.{refl}
use Rattle.foundation.specs.Texts.{Text}
use Rattle.characters.specs.Characters.{from_utf8_after, from_utf8, from_utf16}
use Rattle.characters.specs.told.CharactersTold.{Character, character_read, utf8_at, utf16_at}
use Rattle.characters.specs.told.Plain.{is_ascii}
use Rattle.characters.proofs.AsciiLaws.{all_below, units_alone}
use Rattle.characters.proofs.SeamLaws.{from-ascii}
use Rattle.characters.proofs.CharacterLaws.{utf8-end, utf8-next, utf8-inside}
use Rattle.characters.proofs.UnitLaws.{utf16-end, utf16-next, utf16-inside}

-- `decoded` is the text of some bytes or units, and `character` tells what stands first in them, which go on at a place.
pub record Decoding (decoded : List ℕ → Text) (character : ℕ → List ℕ → Character) : Type 0 where
  pub none : decoded [] ≡ []
  pub plain : (s : List ℕ) → is_ascii s ≡ true → decoded s ≡ s
  pub ended : (s : List ℕ) (at : ℕ) → character at (drop at s) ≡ None → decoded (drop at s) ≡ []
  pub goes_on : (s : List ℕ) (at : ℕ) {code next : ℕ} → character at (drop at s) ≡ character_read code next → decoded (drop at s) ≡ code ∷ decoded (drop next s)
  pub inside : (s : List ℕ) (at : ℕ) {code next : ℕ} → character at (drop at s) ≡ character_read code next → (at < next) × (next ≤ length s)

no_byte : from_utf8 [] ≡ []
unfolding from_utf8_after
no_byte = refl

no_unit : from_utf16 [] ≡ []
unfolding from_utf16
no_unit = refl

pub bytes_decode : Decoding from_utf8 utf8_at
bytes_decode = record {
  none = no_byte;
  plain = λ s a. from-ascii s (all_below s a);
  ended = utf8-end;
  goes_on = λ s at e. utf8-next s at e;
  inside = λ s at e. utf8-inside s at e;
}

pub units_decode : Decoding from_utf16 utf16_at
units_decode = record {
  none = no_unit;
  plain = λ s a. units_alone s (all_below s a);
  ended = utf16-end;
  goes_on = λ s at e. utf16-next s at e;
  inside = λ s at e. utf16-inside s at e;
}
