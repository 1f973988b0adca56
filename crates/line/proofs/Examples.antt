-- Document 01's example: its input from bytes and its line.
-- Assumes nothing.
use mathlib.Core.Path.{◌≡◌, refl}
use mathlib.Core.List.{List, [], ◌∷◌, ◌++◌, map}
use mathlib.Core.Option.{none, some}
use Prim.Native.Nat.{ℕ}
use lib.IntN.{pos, negsuc}
use lib.ListN.{take}
use Rattle.foundation.specs.Choices.{concat}
use Rattle.foundation.specs.Digits.{little}
use Rattle.foundation.specs.Texts.{ascii}
use Rattle.inputs.specs.Inputs.{Input}
use Rattle.line.specs.Input.{d1_count, d2_count, ends_count, whole_input, signed_of}
use Rattle.line.specs.Line.{decimal, hex_of, part_of, line_of}

abbrev pub payload : List ℕ
payload = 0x00 ∷ 0x00 ∷ 0x1a ∷ 0x06 ∷ 0x10 ∷ 0x00 ∷ 0x1a ∷ 0x02 ∷ 0x30 ∷ 0x01 ∷ []

abbrev pub strings : List ℕ
strings = ascii "fkotlin/Unit"

abbrev pub numbers : ℕ → List ℕ → List ℕ
numbers w ns = concat (map (little w) ns)

abbrev pub bytes : List ℕ
bytes =
    numbers 4 (2 ∷ 1 ∷ 9 ∷ 0 ∷ 10 ∷ [])
    ++ (numbers 2 payload ++ (numbers 4 (12 ∷ []) ++ (numbers 2 strings ++ numbers 4 (2 ∷ 1 ∷ 12 ∷ []))))

abbrev pub input : Input
input = record { k = pos 2; mv = pos 1 ∷ pos 9 ∷ pos 0 ∷ []; d1 = payload; d2 = strings; ends = 1 ∷ 12 ∷ [] }

pub example_input : whole_input bytes ≡ some input
unfolding whole_input d1_count d2_count ends_count
example_input = refl

-- bytes after the input are ignored; a byte less is too short
pub example_longer : whole_input (bytes ++ (7 ∷ [])) ≡ some input
unfolding whole_input d1_count d2_count ends_count
example_longer = refl

pub example_shorter : whole_input (take 75 bytes) ≡ none
unfolding whole_input d1_count d2_count ends_count
example_shorter = refl

pub example_nothing : whole_input [] ≡ none
unfolding whole_input d1_count d2_count ends_count
example_nothing = refl

pub example_signs : map signed_of (0 ∷ 2147483647 ∷ 2147483648 ∷ 4294967295 ∷ []) ≡ pos 0 ∷ pos 2147483647 ∷ negsuc 2147483647 ∷ negsuc 0 ∷ []
example_signs = refl

pub example_refusal : line_of 6 65535 [] [] ≡ ascii "6 65535 - -\n"
unfolding line_of decimal part_of hex_of
example_refusal = refl

pub example_line : line_of 0 10 (0x00 ∷ 0x9f ∷ []) (0xfa ∷ []) ≡ ascii "0 10 009f fa\n"
unfolding line_of decimal part_of hex_of
example_line = refl
