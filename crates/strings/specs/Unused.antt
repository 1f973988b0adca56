-- Strings that nobody refers to: two inputs that differ in such strings only have the same answer.
-- Assumes nothing.
use Rattle.std.specs.Prelude.{◌≡◌, List, ℕ, length}
use Rattle.std.proofs.Math.ListN.{get_elem?}
use Rattle.inputs.specs.Inputs.{Input}
use Rattle.inputs.specs.Outcomes.{Answer}
use Rattle.metadata.specs.Read.{strings_of, read}
use Rattle.strings.specs.FallsTo.{FallsTo}

-- Inputs that may differ in what the strings of d2 are, not in how many; so d2 may have more units in all, or fewer.
pub record AlikeButStrings (i j : Input) : Type 0 where
  pub k : i.k ≡ j.k
  pub mv : i.mv ≡ j.mv
  pub d1 : i.d1 ≡ j.d1
  pub count : length i.ends ≡ length j.ends
  -- and whatever the first one's reading falls to is the same string in both, unit by unit
  pub fallen : (n : ℕ) → FallsTo i n → get_elem? (strings_of i) n ≡ get_elem? (strings_of j) n

-- a number that is none of 1, 2 and 3
abbrev pub NoneOfThree : ℕ → Type 0
NoneOfThree number = (number ≡ 1 → ⊥) × (number ≡ 2 → ⊥) × (number ≡ 3 → ⊥)

-- The answer a to the first input, read into two areas, is the answer to any second one that is alike but for other strings: number, detail, both
-- lengths, types and every byte of both areas. Both may be refusals.
abbrev pub UnusedStrings : List ℕ → List ℕ → Input → Answer → Type 0
UnusedStrings sheet text i a =
    (j : Input) (b : Answer) → read sheet text j ≡ b → NoneOfThree a.number → NoneOfThree b.number → AlikeButStrings i j → a ≡ b
