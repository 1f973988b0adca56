-- What is noted after both tables: for each of the first indices a code, and the sizes of long strings of d2.
-- Assumes nothing.
use Rattle.std.specs.Prelude.{◌≡◌, true, List, ℕ, ◌+◌, ◌-◌, ◌/◌, ◌%◌, ◌≤◌, ◌<◌, ltb, length, take, get_or, if◌then◌else◌}
use Rattle.std.proofs.Math.Option.{some}
use Rattle.std.proofs.Math.ListN.{get_elem?}
use Rattle.characters.specs.Characters.{utf8, from_utf16}
use Rattle.names.specs.Names.{strings_from, ends_fit}

-- How many indices have a code in so many words: a quarter of them, no more than 2,048. The last 32 words are for sizes.
abbrev pub codes_in : ℕ → ℕ
codes_in words = if ltb 2048 (words / 4) then 2048 else words / 4

abbrev pub sizes_from : ℕ → ℕ
sizes_from words = words - 32

-- where the codes begin; the notes of both tables stand before them
abbrev pub codes_from : ℕ → ℕ
codes_from words = words - codes_in words - 32

-- Only what stands from n on may have changed.
pub record Keeps (n : ℕ) (before after : List ℕ) : Type 0 where
  pub long : length after ≡ length before
  pub first : take n after ≡ take n before

-- The size in UTF-8 of the string of d2 with an index; 0 says nothing.
abbrev pub SizeOf : List ℕ → List ℕ → ℕ → ℕ → Type 0
SizeOf units ends index size =
    (size ≡ 0 → ⊥) → (s : List ℕ) → get_elem? (strings_from 0 ends units) index ≡ some s → size ≡ length (utf8 (from_utf16 s))

-- The sizes that are noted of long strings, each with the string's index in its low 16 bits.
pub record SizesOf (units ends notes : List ℕ) : Type 0 where
  pub each : (j : ℕ) → length notes ≤ j + 32 → j < length notes → SizeOf units ends (get_or notes j 0 % 65536) (get_or notes j 0 / 65536)

-- One string noted at a place among the sizes, or none.
pub record StringNoted (units ends before after : List ℕ) (next : ℕ) : Type 0 where
  pub keeps : Keeps (sizes_from (length before)) before after
  pub place : length before ≤ next + 32
  pub sizes : ends_fit 0 ends (length units) ≡ true → SizesOf units ends before → SizesOf units ends after
